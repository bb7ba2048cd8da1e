use Rattle.std.proofs.Common.{◌∙◌, ◌++◌, Ok, arith, inl, inr, refl, ap, sym, subst}
use Rattle.std.specs.Prelude.{IsTrue}
use Rattle.std.proofs.lemmas.Bool.{false≢true}
use Rattle.bloom_bits.specs.Fences.{IsBelowAll, IsPlaceOf}
use Rattle.page_file.specs.Entry.{keys_of}
use Rattle.page_file.specs.Component.{entries_of}
use Rattle.run_cursor.proofs.FindLemmas.{no_pages, some_pages, not_found, none_on, on_page_of, listed, keys_in_front, none_in_front, place_in_front, some_front, asked_on, asked_told, asked_damaged}
use Rattle.run_cursor.proofs.lookup.find.Goals as goal
use Rattle.run_cursor.proofs.lookup.find.Goals.{then-run-eq0-via-then-run-eq0, then-run-eq0-via-else-run-eq0+then-not-may}

pub returns-then-run-eq0-clause-list : goal.returns-then-run-eq0-clause-list
returns-then-run-eq0-clause-list g c = λ pages honest reads guide other.
    elim c.then-run-eq0.branch [
      | then-run-eq0-via-then-run-eq0 w ↦ ap Ok (sym (no_pages c.args.key.now pages c.args.run.now.pages reads.pages_is w.if-run-eq0.true))
      | then-run-eq0-via-else-run-eq0+then-not-may w ↦
          ap Ok (sym (not_found c.args.key.now (entries_of pages) (λ has. false≢true (sym w.if-not-may.true ∙ w.may.ensures.added (keys_of (entries_of pages)) (guide (some_pages pages c.args.run.now.pages reads.pages_is w.if-run-eq0.false)).keys has))))
    ]

pub returns-then-run-eq0-clause-told : goal.returns-then-run-eq0-clause-told
returns-then-run-eq0-clause-told g c = λ honest.
    elim c.then-run-eq0.branch [
      | then-run-eq0-via-then-run-eq0 w ↦ inl (inl w.if-run-eq0.true, refl, omega arith)
      | then-run-eq0-via-else-run-eq0+then-not-may w ↦ inl (inr (inl (λ may. false≢true (sym w.if-not-may.true ∙ w.may.ensures.exactly.1 may))), refl, omega arith)
    ]

pub returns-in-Some-clause-list : goal.returns-in-Some-clause-list
returns-in-Some-clause-list g c = λ pages honest reads guided other.
    let sizes = c.args.geo.now in
    let file = (g.D.Disk.state c.args.disk.now).bytes in
    let guide = guided (some_pages pages c.args.run.now.pages reads.pages_is c.if-run-eq0.false) in
    let place = subst (IsPlaceOf c.args.key.now c.in-Some.page) guide.fences_are c.in-Some.ensures.some in
    let on = on_page_of sizes c.args.key.now c.in-Some.page file pages _ reads.chained reads.rise place in
    listed (IsTrue (g.D.Disk.state c.args.disk.now).is_honest) sizes c.args.key.now c.in-Some.page pages file c.find_on.result honest c.find_on.ensures.few on c.find_on.ensures.page c.find_on.ensures.damaged other

pub returns-in-Some-clause-no_call : goal.returns-in-Some-clause-no_call
returns-in-Some-clause-no_call g c = λ lacks. absurd (lacks (c.may.ensures.exactly.0 c.if-not-may.false))

pub returns-in-None-clause-list : goal.returns-in-None-clause-list
returns-in-None-clause-list g c = λ pages honest reads guided other.
    let guide = guided (some_pages pages c.args.run.now.pages reads.pages_is c.if-run-eq0.false) in
    let below = subst (IsBelowAll c.args.key.now) guide.fences_are (c.in-None.ensures.none.0 refl) in
    ap Ok (sym (none_on c.args.geo.now c.args.key.now (g.D.Disk.state c.args.disk.now).bytes pages _ reads.chained reads.rise below))

-- ---- whatever filter and fences are

pub returns-in-Some-clause-told : goal.returns-in-Some-clause-told
returns-in-Some-clause-told g c =
    asked_told (IsTrue (g.D.Disk.state c.args.disk.now).is_honest) c.args.geo.now c.args.run.now c.args.filter.now c.args.fences.now c.args.key.now c.in-Some.page _ (g.D.Disk.state c.args.disk.now).bytes c.find_on.result
    (asked_on c.args.run.now c.args.filter.now c.args.fences.now c.args.key.now c.in-Some.page c.if-run-eq0.false (c.may.ensures.exactly.0 c.if-not-may.false) c.in-Some.ensures.some)
    (omega (arith, c.find_on.ensures.reads.effect.effect.calls)) c.find_on.ensures.page

pub returns-in-Some-clause-damaged : goal.returns-in-Some-clause-damaged
returns-in-Some-clause-damaged g c = λ n is honest.
    let found = c.find_on.ensures.damaged n is honest in
    asked_damaged c.args.geo.now c.args.run.now c.args.filter.now c.args.fences.now c.args.key.now n c.in-Some.page (g.D.Disk.state c.args.disk.now).bytes found.0
    (asked_on c.args.run.now c.args.filter.now c.args.fences.now c.args.key.now c.in-Some.page c.if-run-eq0.false (c.may.ensures.exactly.0 c.if-not-may.false) c.in-Some.ensures.some)
    found.1

pub returns-in-None-clause-told : goal.returns-in-None-clause-told
returns-in-None-clause-told g c = λ honest. inl (inr (inr (c.in-None.ensures.none.0 refl)), refl, omega arith)

-- ---- where the run goes on

pub returns-then-run-eq0-clause-front : goal.returns-then-run-eq0-clause-front
returns-then-run-eq0-clause-front g c = λ pages behind next honest reads guide below other.
    elim c.then-run-eq0.branch [
      | then-run-eq0-via-then-run-eq0 w ↦ ap Ok (sym (no_pages c.args.key.now pages c.args.run.now.pages reads.pages_is w.if-run-eq0.true))
      | then-run-eq0-via-else-run-eq0+then-not-may w ↦
          let some = some_front pages behind (some_pages pages c.args.run.now.pages reads.pages_is w.if-run-eq0.false) in
          ap Ok (sym (not_found c.args.key.now (entries_of pages)
          (λ has. false≢true (sym w.if-not-may.true ∙ w.may.ensures.added (keys_of (entries_of (pages ++ behind))) (guide some).keys (keys_in_front c.args.key.now pages behind has)))))
    ]

pub returns-in-Some-clause-front : goal.returns-in-Some-clause-front
returns-in-Some-clause-front g c = λ pages behind next honest reads guided below other.
    let sizes = c.args.geo.now in
    let key = c.args.key.now in
    let file = (g.D.Disk.state c.args.disk.now).bytes in
    let guide = guided (some_front pages behind (some_pages pages c.args.run.now.pages reads.pages_is c.if-run-eq0.false)) in
    let place = place_in_front key c.in-Some.page pages behind (subst (IsPlaceOf key c.in-Some.page) guide.fences_are c.in-Some.ensures.some) below in
    let on = on_page_of sizes key c.in-Some.page file pages next reads.chained reads.rise place in
    listed (IsTrue (g.D.Disk.state c.args.disk.now).is_honest) sizes key c.in-Some.page pages file c.find_on.result honest c.find_on.ensures.few on c.find_on.ensures.page c.find_on.ensures.damaged other

pub returns-in-None-clause-front : goal.returns-in-None-clause-front
returns-in-None-clause-front g c = λ pages behind next honest reads guided below other.
    let key = c.args.key.now in
    let guide = guided (some_front pages behind (some_pages pages c.args.run.now.pages reads.pages_is c.if-run-eq0.false)) in
    let none = none_in_front key pages behind (subst (IsBelowAll key) guide.fences_are (c.in-None.ensures.none.0 refl)) in
    ap Ok (sym (none_on c.args.geo.now key (g.D.Disk.state c.args.disk.now).bytes pages next reads.chained reads.rise none))
