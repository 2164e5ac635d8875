-- A plain command has a text over any segments.
use Rattle.std.proofs.Common.{◌≡◌, ℕ, ◌<◌, List, [], ◌∷◌, ◌++◌, length, map, Option}
use Rattle.std.proofs.Common.{Some, None, refl, sym, subst, inl, inr, append-nil, eqb}
use Rattle.std.proofs.lemmas.Bool.{cases_Bool, eqb-true}
use Rattle.std.specs.List.{flat_map}
use Rattle.plum_base.specs.declared.entry.Entry.{Entry}
use Rattle.plum_base.specs.declared.numbers.StationNo.{StationNo}
use Rattle.plum_base.specs.declared.packet.Packet.{Packet}
use Rattle.plum_base.specs.declared.setup.Setup.{Setup}
use Rattle.plum_base.specs.declared.sites.StationSite.{StationSite}
use Rattle.plum_base.specs.Lane.{lane_of}
use Rattle.plum_base.specs.Levels.{IsLevelTable}
use Rattle.plum_base.specs.Sites.{IsFoundAt}
use Rattle.plum_base.proofs.Coded.{listed_code}
use Rattle.plum_base.proofs.Pushes.{by_push}
use Rattle.plum_core.proofs.Joining.{HoldsKept-nil, IsValidHistory-nil}
use Rattle.plum_core.specs.Facts.{IsBacklog, IsInLaneOrder}
use Rattle.plum_core.specs.History.{HoldsKept, IsValidHistory}
use Rattle.plum_core.specs.Laws.{NextEntryJoins, OrderJoins, SendingKeeps, TakingKeeps}
use Rattle.plum_core.specs.Machine.{waiting_after}
use Rattle.plum_packet.specs.Bodies.{bodies_of}
use Rattle.plum_packet.specs.Laws.{EachIsCapture}
use Rattle.plum_packet.specs.Segments.{Decoded, packets_in}
use Rattle.plum_seq.proofs.Stations.{of_station-other, of_station-own}
use Rattle.plum_seq.specs.Keys.{of_station}
use Rattle.plum_text.specs.Lines.{out_line, plain_line}
use Rattle.plum.proofs.Decoding.{capture_decodes, found_at}
use Rattle.plum.specs.Job.{IsPlain, Job, check, drill, replay, station}
use Rattle.plum.specs.Laws.{EachHasPlainText}
use Rattle.plum.specs.Plain.{IsHistoryOf, IsTextOver, check_lines, counts_line, packets_of}
use Rattle.plum.specs.Plain.{value_line}

-- what is known of a lane in which nothing waits, and of what it sends
pub record SendingLaws : Type 0 where
  pub taking : TakingKeeps
  pub next : NextEntryJoins
  pub order : OrderJoins
  pub sending : SendingKeeps

module _ (laws : SendingLaws) (setup : Setup) (stations : ℕ) (table : IsLevelTable setup.levels)
  where
    module _ (n : ℕ) (listed : n < stations) where
      -- Of these packets of the station, its lane sent this history.
      record HasSent (own : List Packet) : Type 0 where
        history : List Entry
        valid : IsValidHistory setup stations history
        in_lane : IsInLaneOrder (lane_of setup.lanes n) history history
        backlog : IsBacklog setup stations (lane_of setup.lanes n) own None history

      -- what waits is sent
      sent : (own : List Packet) (history : List Entry) → IsValidHistory setup stations history
          → IsInLaneOrder (lane_of setup.lanes n) history history → (waiting : Option Entry)
          → IsBacklog setup stations (lane_of setup.lanes n) own waiting history → HasSent own
      sent own history valid in_lane None backlog = record {
        history = history;
        valid = valid;
        in_lane = in_lane;
        backlog = backlog;
      }
      sent own history valid in_lane (Some e) backlog =
          let lane = lane_of setup.lanes n in
          let next = backlog.next in
          record {
            history = history ++ e ∷ [];
            valid = laws.next setup stations lane e history history valid in_lane next.0 next.1;
            in_lane = laws.order lane e history history next.0 in_lane;
            backlog = laws.sending setup stations lane own e history backlog;
          }

      -- one packet of the station more
      sent_more : (own : List Packet) (p : Packet) → p.station.0 ≡ n → HasSent own
          → HasSent (own ++ p ∷ [])
      sent_more own p same has =
          let waiting = waiting_after setup own p in
          let taken : IsBacklog setup stations (lane_of setup.lanes n) (own ++ p ∷ []) waiting
          has.history =
          subst (λ k. k < stations
          → IsBacklog setup stations (lane_of setup.lanes k) own None has.history
          → IsBacklog setup stations (lane_of setup.lanes k) (own ++ p ∷ []) waiting has.history)
          same (laws.taking setup stations own p has.history table) listed has.backlog in
          sent (own ++ p ∷ []) has.history has.valid has.in_lane waiting taken

      all_sent : (packets : List Packet) → HasSent (of_station n packets)
      all_sent = by_push (λ ps. HasSent (of_station n ps)) none more
        where
          none : HasSent []
          none = record {
            history = [];
            valid = IsValidHistory-nil setup stations;
            in_lane = refl;
            backlog = record { kept = HoldsKept-nil; next = tt };
          }

          more : (ps : List Packet) (p : Packet) → HasSent (of_station n ps)
              → HasSent (of_station n (ps ++ p ∷ []))
          more ps p has = elim (cases_Bool (eqb p.station.0 n)) [
            | inl own ↦ subst HasSent (sym (of_station-own n ps p own))
                (sent_more (of_station n ps) p (eqb-true p.station.0 n own) has)
            | inr other ↦ subst HasSent (sym (of_station-other n ps p other)) has
          ]

    -- So each station's packets have a history.
    station_history : (n : ℕ) → n < stations → (packets : List Packet)
        → (history : List Entry) × IsHistoryOf setup stations (of_station n packets) history
    station_history n listed packets =
        let has = all_sent n listed packets in (
          has.history,
          record {
            valid = has.valid;
            holds = subst (λ h. HoldsKept h (of_station n packets)) (append-nil has.history)
                has.backlog.kept;
          },
        )

module _ (laws : SendingLaws) (setup : Setup) (stations : List StationSite)
    (table : IsLevelTable setup.levels) where
  -- So do those of whatever is found at a code.
  history_at : (code : ℕ) (found : Option StationNo) → IsFoundAt stations code found
      → (packets : List Packet)
      → (history : List Entry)
      × IsHistoryOf setup (length stations) (packets_of found packets) history
  history_at code None none packets = (
    [],
    record { valid = IsValidHistory-nil setup (length stations); holds = HoldsKept-nil },
  )
  history_at code (Some n) has packets =
      station_history laws setup (length stations) table n.0
      (listed_code stations n.0 code has).0 packets

  -- There is a text.
  text_over : (job : Job) → IsPlain job → (segments : List (List Decoded)) (tail : ℕ)
      → (text : List ℕ) × IsTextOver job setup stations segments tail text
  text_over (replay s st t c j) plain segments tail = absurd plain
  text_over (drill seed drilled seconds) plain segments tail = absurd plain
  text_over (check s st t c) plain segments tail =
      (flat_map out_line (check_lines segments tail), refl)
  text_over (station s st c code) plain segments tail =
      let packets = packets_in (bodies_of segments) in
      let found = found_at stations code in
      let history = history_at code found.0 found.1 packets in
      let lines =
      map value_line history.0 ++ counts_line (packets_of found.0 packets) history.0 ∷ [] in (
        flat_map plain_line lines,
        (
          lines,
          record {
            found = found.0;
            found_at = found.1;
            history = history.0;
            history_is = history.1;
            lines_are = refl;
          },
          refl,
        ),
      )

-- So there is one over each capture.
pub each_text : SendingLaws → EachIsCapture → EachHasPlainText
each_text laws each job setup stations capture plain table are =
    let whole = capture_decodes each stations capture are in
    let text = text_over laws setup stations table job plain whole.0 whole.1 in (
      text.0,
      record {
        segments = whole.0;
        tail = whole.1;
        capture_is = whole.2;
        text_is = text.1;
      },
    )
