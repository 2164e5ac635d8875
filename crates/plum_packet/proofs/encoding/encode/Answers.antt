use Rattle.std.proofs.Common.{ℕ, List, All, sym, subst, arith}
use Rattle.plum_base.specs.declared.wave.Sample.{Sample}
use Rattle.plum_packet.specs.Body.{IsPacket}
use Rattle.plum_packet.specs.Encoding.{FitsSample, IsOnlyBody}
use Rattle.plum_packet.proofs.Writing.{is_packet, written}
use Rattle.plum_packet.proofs.OneBody.{is_only_body, is_only_packet}
use Rattle.plum_packet.proofs.encoding.encode.Goals as goal

pub returns-clause-body : goal.returns-clause-body
returns-clause-body c =
    let stations = c.args.sites.now.stations in
    let packet = c.args.packet.now in
    let code = c.station_code-code.result in
    let header = c.header_of-header.ensures in
    let samples_are = c.as_slice-samples.ensures.value in
    let put = c.in_ok-put_samples.ensures in
    let is = written packet code _ _ _ _ _ c.in_ok-bytes.ensures samples_are header.value
    c.in_ok-extend.ensures.ok put.ok in
    let ranges = subst (λ (l : List Sample). All FitsSample l) samples_are put.ranges in
    subst (λ (l : List ℕ). IsPacket stations l packet) (sym is)
    (is_packet stations packet code c.station_code-code.ensures.code (omega arith) header.range
    c.requires.some c.requires.few ranges)

pub returns-clause-spelled : goal.returns-clause-spelled
returns-clause-spelled c =
    let code = c.station_code-code.result in
    let is = written c.args.packet.now code _ _ _ _ _ c.in_ok-bytes.ensures
    c.as_slice-samples.ensures.value c.header_of-header.ensures.value
    c.in_ok-extend.ensures.ok c.in_ok-put_samples.ensures.ok in
    (code, c.station_code-code.ensures.code, is)

pub returns-clause-only : goal.returns-clause-only
returns-clause-only c =
    let stations = c.args.sites.now.stations in
    let packet = c.args.packet.now in
    let code = c.station_code-code.result in
    let is = written packet code _ _ _ _ _ c.in_ok-bytes.ensures c.as_slice-samples.ensures.value
    c.header_of-header.ensures.value c.in_ok-extend.ensures.ok c.in_ok-put_samples.ensures.ok in
    subst (IsOnlyBody stations packet) (sym is)
    (is_only_body stations packet code c.station_code-code.ensures.code)

pub returns-clause-read : goal.returns-clause-read
returns-clause-read c =
    is_only_packet c.args.sites.now.stations c.args.packet.now _
    c.station_code-code.ensures.lawful.codes (returns-clause-body c)
