use Rattle.std.proofs.Common.{ℕ, ◌∙◌, sym, subst, refl, arith}
use Rattle.std.specs.Cmp.Lexicographic.{same_text, other_text}
use Rattle.plum_base.specs.Sites.{HasCode}
use Rattle.plum_packet.proofs.FirstFault.{is_magic, is_version, is_flags, is_station, is_count}
use Rattle.plum_packet.proofs.FirstFault.{is_length, has_no_fault, err_exactly, ok_exactly}
use Rattle.plum_packet.proofs.Fields.{listed, number_of-rest}
use Rattle.plum_packet.proofs.body.inspect.Goals as goal

pub returns-then-not-starts_with-clause-fault : goal.returns-then-not-starts_with-clause-fault
returns-then-not-starts_with-clause-fault c =
    let stations = c.args.sites.now.stations in
    let body = c.args.bytes.now in
    let long = c.if-bytes-lt-HEADER.false in
    let tested = sym c.if-not-starts_with.true ∙ c.starts_with.ensures.value in
    err_exactly stations body _
    (is_magic stations body long (λ e. other_text _ _ tested (sym e)))

pub returns-then-version-ne1-clause-fault : goal.returns-then-version-ne1-clause-fault
returns-then-version-ne1-clause-fault c =
    let stations = c.args.sites.now.stations in
    let body = c.args.bytes.now in
    let long = c.if-bytes-lt-HEADER.false in
    let tested = sym c.if-not-starts_with.false ∙ c.starts_with.ensures.value in
    let magic = sym (same_text _ _ tested) in
    err_exactly stations body _ (is_version stations body long magic c.if-version-ne1.true)

pub returns-then-flags-ne0-clause-fault : goal.returns-then-flags-ne0-clause-fault
returns-then-flags-ne0-clause-fault c =
    let stations = c.args.sites.now.stations in
    let body = c.args.bytes.now in
    let long = c.if-bytes-lt-HEADER.false in
    let tested = sym c.if-not-starts_with.false ∙ c.starts_with.ensures.value in
    let magic = sym (same_text _ _ tested) in
    let version = c.if-version-ne1.false in
    err_exactly stations body _ (is_flags stations body long magic version c.if-flags-ne0.true)

pub returns-in_default-clause-fault : goal.returns-in_default-clause-fault
returns-in_default-clause-fault c =
    let stations = c.args.sites.now.stations in
    let body = c.args.bytes.now in
    let long = c.if-bytes-lt-HEADER.false in
    let tested = sym c.if-not-starts_with.false ∙ c.starts_with.ensures.value in
    let magic = sym (same_text _ _ tested) in
    let version = c.if-version-ne1.false in
    let flags = c.if-flags-ne0.false in
    let code = c.read_u16-code.ensures ∙ number_of-rest 4 2 body in
    let none = c.in_default.ensures.none in
    err_exactly stations body _ (is_station stations body long magic version flags _ code none)

pub returns-then-count-eq0-clause-fault : goal.returns-then-count-eq0-clause-fault
returns-then-count-eq0-clause-fault c =
    let stations = c.args.sites.now.stations in
    let body = c.args.bytes.now in
    let long = c.if-bytes-lt-HEADER.false in
    let tested = sym c.if-not-starts_with.false ∙ c.starts_with.ensures.value in
    let magic = sym (same_text _ _ tested) in
    let version = c.if-version-ne1.false in
    let flags = c.if-flags-ne0.false in
    let code = c.read_u16-code.ensures ∙ number_of-rest 4 2 body in
    let known = listed stations _ _ _ code c.in-Some.ensures.found in
    let count = c.read_u16-count.ensures ∙ number_of-rest 12 2 body in
    err_exactly stations body _
    (is_count stations body long magic version flags known _ count (grind arith))

pub returns-then-expected-found-clause-fault : goal.returns-then-expected-found-clause-fault
returns-then-expected-found-clause-fault c =
    let stations = c.args.sites.now.stations in
    let body = c.args.bytes.now in
    let long = c.if-bytes-lt-HEADER.false in
    let tested = sym c.if-not-starts_with.false ∙ c.starts_with.ensures.value in
    let magic = sym (same_text _ _ tested) in
    let version = c.if-version-ne1.false in
    let flags = c.if-flags-ne0.false in
    let code = c.read_u16-code.ensures ∙ number_of-rest 4 2 body in
    let known = listed stations _ _ _ code c.in-Some.ensures.found in
    let count = c.read_u16-count.ensures ∙ number_of-rest 12 2 body in
    err_exactly stations body _
    (is_length stations body long magic version flags known (omega arith) (omega arith) _ _
    (omega arith) refl c.if-expected-found.true)

pub returns-clause-head : goal.returns-clause-head
returns-clause-head c =
    let stations = c.args.sites.now.stations in
    let body = c.args.bytes.now in
    let long = c.if-bytes-lt-HEADER.false in
    let tested = sym c.if-not-starts_with.false ∙ c.starts_with.ensures.value in
    let magic = sym (same_text _ _ tested) in
    let version = c.if-version-ne1.false in
    let flags = c.if-flags-ne0.false in
    let code = c.read_u16-code.ensures ∙ number_of-rest 4 2 body in
    let found = c.in-Some.ensures.found in
    let known = listed stations _ _ _ code found in
    let count = c.read_u16-count.ensures ∙ number_of-rest 12 2 body in
    let boot = c.read_u16.ensures ∙ number_of-rest 6 2 body in
    let number = c.read_u32.ensures ∙ number_of-rest 8 4 body in
    record {
      lawful = has_no_fault stations body long magic version flags known (omega arith)
          (omega arith) (omega arith);
      station = subst (λ (n : ℕ). HasCode stations c.in-Some.station.0 n) code found;
      key = cc;
      count = count;
    }

pub returns-clause-fault : goal.returns-clause-fault
returns-clause-fault c =
    ok_exactly c.args.sites.now.stations c.args.bytes.now _ (returns-clause-head c).lawful
