use Rattle.std.proofs.Common.{rules, ◌≡◌, ◌+◌, ◌<◌, ◌≤◌, ◌++◌, length, take, drop, Some, ap, ◌∙◌}
use Rattle.std.proofs.Common.{arith, length-append, length-take}
use Rattle.std.proofs.lemmas.List.{take-append-le, length-take-le}
use Rattle.plum_host.proofs.Frames.{OnlyReads-join}
use Rattle.plum_host.proofs.Loaded.{loaded-more, loaded-same, loaded_behind, loaded_at_most}
use Rattle.plum_host.proofs.Loaded.{loaded_whole}
use Rattle.plum_host.proofs.loading.load.Goals as goal

-- a read that failed took nothing
pub returns-in_err-count-clause-read_within : goal.returns-in_err-count-clause-read_within
returns-in_err-count-clause-read_within g c = λ _ all told.
    let h = c.reads.invariant in
    let failed = c.in_err-count.ensures.failed in
    let same = loaded-same all c.reads.bytes _ _ (h.loaded all told) failed in
    loaded_at_most c.args.limit all c.reads.bytes _ same h.within

pub returns-in_err-count-clause-at_most : goal.returns-in_err-count-clause-at_most
returns-in_err-count-clause-at_most g c = λ all told.
    let h = c.reads.invariant in
    let failed = c.in_err-count.ensures.failed in
    let same = loaded-same all c.reads.bytes _ _ (h.loaded all told) failed in
    loaded_at_most (c.args.limit + 1) all c.reads.bytes _ same (omega (arith, h.within))

-- the end of the input
pub returns-then-count-eq0-clause-whole : goal.returns-then-count-eq0-clause-whole
returns-then-count-eq0-clause-whole g c = λ all told.
    let read = c.in_ok-count.ensures in
    let h = c.reads.invariant in
    let none : c.in_ok-count.count ≡ 0 = c.if-count-eq0.true in
    let asked : 0 < length (take c.min-most.result c.reads.piece) =
    omega (arith, length-take c.min-most.result c.reads.piece, h.room) in
    loaded_whole all c.reads.bytes _ _ c.read.new.buf (h.loaded all told)
    (read.ended (rw none) asked) (rw none at read.taken)

pub returns-then-count-eq0-clause-at_most : goal.returns-then-count-eq0-clause-at_most
returns-then-count-eq0-clause-at_most g c = λ all told.
    let h = c.reads.invariant in
    let count = c.in_ok-count.count in
    let bytes = c.reads.bytes in
    let buffer = c.read.new.buf in
    let more = loaded-more all bytes _ _ count buffer (h.loaded all told)
    c.in_ok-count.ensures.taken in
    let few : length (bytes ++ take count buffer) ≤ c.args.limit + 1 =
    omega (arith, length-append bytes (take count buffer), length-take count buffer, h.within) in
    loaded_at_most (c.args.limit + 1) all (bytes ++ take count buffer) _ more few

-- a byte behind the limit
pub returns-then-count-room-clause-too_long : goal.returns-then-count-room-clause-too_long
returns-then-count-room-clause-too_long g c = λ _ all told.
    let h = c.reads.invariant in
    let read = c.in_ok-count.ensures in
    let count = c.in_ok-count.count in
    let bytes = c.reads.bytes in
    let buffer = c.read.new.buf in
    let taken = bytes ++ take count buffer in
    let more = loaded-more all bytes _ _ count buffer (h.loaded all told) read.taken in
    let behind = loaded_behind all taken _ more in
    let short : count ≤ length buffer = omega (arith, read.count) in
    let one_more : length taken ≡ c.args.limit + 1 =
    omega (
      arith,
      length-append bytes (take count buffer),
      length-take-le count buffer short,
      ap length c.as_slice.ensures,
      read.count,
      length-take c.min-most.result c.reads.piece,
      h.within,
    ) in
    (omega arith, behind.1 ∙ ap (λ n. Some (drop n all)) one_more)

pub returns-then-count-room-clause-at_most : goal.returns-then-count-room-clause-at_most
returns-then-count-room-clause-at_most g c = λ all told.
    let long = returns-then-count-room-clause-too_long g c (search rules) all told in
    (c.args.limit + 1, omega arith, omega (arith, long.0), long.1)

pub reads-preserved : goal.reads-preserved
reads-preserved g c =
    let h = c.reads.invariant in
    let read = c.in_ok-count.ensures in
    let count = c.in_ok-count.count in
    let bytes = c.reads.bytes in
    let buffer = c.read.new.buf in
    let behind = drop c.min-most.result c.reads.piece in
    let short : count ≤ length buffer = omega (arith, read.count) in
    let longer : c.extend.new.self ≡ bytes ++ take count buffer =
    c.in_ok-extend.ensures.ok
    ∙ ap (λ l. bytes ++ l) (take-append-le count buffer behind short) in
    record {
      room = omega (arith, length-append buffer behind);
      within = omega (
        arith,
        ap length longer,
        length-append bytes (take count buffer),
        length-take-le count buffer short,
        ap length c.as_slice.ensures,
      );
      loaded = λ all told.
          rw longer (loaded-more all bytes _ _ count buffer (h.loaded all told) read.taken);
      counts = record {
        reads = read.no_fault ∙ h.counts.reads;
        writes = read.frame.write_faults ∙ h.counts.writes;
      };
      frame = OnlyReads-join h.frame read.frame;
    }

-- memory for the last piece is refused
pub returns-in_err-extend-clause-at_most : goal.returns-in_err-extend-clause-at_most
returns-in_err-extend-clause-at_most g c = λ all told.
    let h = c.reads.invariant in
    let read = c.in_ok-count.ensures in
    let count = c.in_ok-count.count in
    let bytes = c.reads.bytes in
    let buffer = c.read.new.buf in
    let more = loaded-more all bytes _ _ count buffer (h.loaded all told) read.taken in
    let few : length (bytes ++ take count buffer) ≤ c.args.limit + 1 =
    omega (
      arith,
      length-append bytes (take count buffer),
      length-take count buffer,
      ap length c.as_slice.ensures,
      h.within,
    ) in
    loaded_at_most (c.args.limit + 1) all (bytes ++ take count buffer) _ more few
