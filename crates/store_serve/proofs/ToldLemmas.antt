-- What is told, line by line.
use Rattle.std.proofs.Common.{◌≡◌, ◌∙◌, ℕ, ◌+◌, List, [], ◌∷◌, ◌++◌, ◌≤◌, Option, Some, None, Result, Ok, Err, IfOk, length, take, refl, sym, ap, subst, append_assoc, append-nil, arith, length-append}
use Rattle.std.proofs.lemmas.Bool.Decides.{nat_tests}
use Rattle.std.proofs.lemmas.Grind.{common_steps}
use Rattle.std.proofs.Math.Seq.{take-append-add}
use Rattle.refusal.specs.declared.Failed.{Failed}
use Rattle.blsm_model.specs.Printed.{end_text, entries_text, entry_text, history_text}
use Rattle.blsm_model.specs.declared.history.Entry.{Entry}
use Rattle.blsm_model.specs.declared.history.Totals.{Totals}
use Rattle.ship_text.specs.Ships.{ships_in, ships_of}
use Rattle.ship_text.proofs.ShipLemmas.{written_with}
use Rattle.store_serve.specs.Told.{AddsPast, IsTold, at_first, at_last, closing_text, front_text, open_text, served_text, ship_behind, told_entry, told_ship, told_text}
use Rattle.store_serve.specs.declared.closing.Closing.{Closing}
use Rattle.store_serve.specs.declared.closing.Closing.TheVariants.{SinkFault}
use Rattle.text_io.specs.Lines.{HasRisenOnce}
use Rattle.text_io.specs.Text.{Adds, AddsFront, SinkState, Writes}
use Rattle.text_io.proofs.WritingLemmas.{writes_then}

-- ---- ships

-- the number of the ship behind those of these entries
abbrev pub ship_after : ℕ → List Entry → ℕ
ship_after ship [] = ship
ship_after ship (e ∷ es) = ship_after (ship_behind ship e) es

pub ship_after-push : (ship : ℕ) (es : List Entry) (e : Entry) → ship_after ship (es ++ e ∷ []) ≡ ship_behind (ship_after ship es) e
ship_after-push ship [] e = refl
ship_after-push ship (x ∷ es) e = ship_after-push (ship_behind ship x) es e

one_behind : (ship : ℕ) (e : Entry) → ship_behind ship e ≤ ship + 1
one_behind ship e = grind (arith, common_steps, nat_tests)

-- an entry has one ship at most
pub few_ships : (ship : ℕ) (es : List Entry) → ship_after ship es ≤ ship + length es
few_ships ship [] = omega arith
few_ships ship (e ∷ es) = omega (arith, one_behind ship e, few_ships (ship_behind ship e) es)

told_and_one : (ship place : ℕ) (es : List Entry) (qs : List ℕ) (e : Entry) (q n : ℕ) → length qs ≡ length es → place + length es ≡ n
    → told_text ship place (es ++ e ∷ []) (qs ++ q ∷ []) ≡ told_text ship place es qs ++ told_entry (ship_after ship es) n e q
told_and_one ship place [] [] e q n same here =
    append-nil (told_entry ship place e q) ∙ ap (λ (p : ℕ). told_entry ship p e q) (omega arith)
told_and_one ship place (x ∷ es) (r ∷ qs) e q n same here =
    ap (λ (l : List ℕ). told_entry ship place x r ++ l) (told_and_one (ship_behind ship x) (place + 1) es qs e q n (omega arith) (omega arith))
    ∙ sym (append_assoc (told_entry ship place x r) (told_text (ship_behind ship x) (place + 1) es qs)
    (told_entry (ship_after (ship_behind ship x) es) n e q))
told_and_one ship place [] (r ∷ qs) e q n same here = absurd (omega arith)
told_and_one ship place (x ∷ es) [] e q n same here = absurd (omega arith)

-- with 0 the entries alone are told, and the whole is the history's text, and why it ended
told_plain : (place : ℕ) (es : List Entry) (qs : List ℕ) → told_text 0 place es qs ≡ entries_text place es qs
told_plain place [] qs = refl
told_plain place (e ∷ es) [] = refl
told_plain place (e ∷ es) (q ∷ qs) =
    ap (λ (l : List ℕ). l ++ told_text 0 (place + 1) es qs) (append-nil (entry_text place e q))
    ∙ ap (λ (l : List ℕ). entry_text place e q ++ l) (told_plain (place + 1) es qs)

pub served_plain : (charge : ℕ) (es : List Entry) (qs : List ℕ) (totals : Totals) (c : Closing)
    → served_text 0 charge es qs totals c ≡ history_text charge es qs totals ++ closing_text c
served_plain charge es qs totals c = ap (λ (l : List ℕ). open_text charge ++ l ++ end_text totals ++ closing_text c) (told_plain 1 es qs)

-- ---- one entry's text, as its calls write it

none_told : (ship : ℕ) (e : Entry) → ship ≡ 0 → told_ship ship e ≡ []
none_told ship e h1 = grind (arith, common_steps, nat_tests)

one_told : (ship : ℕ) (e : Entry) → (ship ≡ 0 → ⊥) → told_ship ship e ≡ ships_of ship e
one_told ship e h1 = grind (arith, common_steps, nat_tests)

pub none_behind : (ship : ℕ) (e : Entry) → ship ≡ 0 → 0 ≡ ship_behind ship e
none_behind ship e h1 = grind (arith, common_steps, nat_tests)

next_behind : (ship next : ℕ) (e : Entry) → (ship ≡ 0 → ⊥) → next ≡ ship + ships_in e → next ≡ ship_behind ship e
next_behind ship next e h1 h2 = grind (arith, common_steps, nat_tests)

pub next_after : (ship : ℕ) (e : Entry) (result : Result ℕ Failed) → (ship ≡ 0 → ⊥) → IfOk result (λ next. next ≡ ship + ships_in e)
    → IfOk result (λ next. next ≡ ship_behind ship e)
next_after ship e (Ok next) some is = next_behind ship next e some is
next_after ship e (Err failed) some is = tt

-- the line alone, where there are no ships
pub tells_line : (ship place : ℕ) (e : Entry) (q next : ℕ) {old new : SinkState} → ship ≡ 0
    → Writes {T = Unit {0}} {E = Failed} (entry_text place e q) (Ok tt) old new
    → Writes {T = ℕ} {E = Failed} (told_entry ship place e q) (Ok next) old new
tells_line ship place e q next {old} {new} none line =
    subst (λ (l : List ℕ). Writes {T = ℕ} {E = Failed} l (Ok next) old new)
    (sym (ap (λ (l : List ℕ). entry_text place e q ++ l) (none_told ship e none) ∙ append-nil (entry_text place e q)))
    (written_with (entry_text place e q) tt next old new line)

-- the line, and then what there is of a ship
pub tells_both : (ship place : ℕ) (e : Entry) (q : ℕ) (result : Result ℕ Failed) {old mid new : SinkState} → (ship ≡ 0 → ⊥)
    → Writes {T = Unit {0}} {E = Failed} (entry_text place e q) (Ok tt) old mid → Writes (ships_of ship e) result mid new
    → Writes (told_entry ship place e q) result old new
tells_both ship place e q result {old} {mid} {new} some line one =
    subst (λ (l : List ℕ). Writes (entry_text place e q ++ l) result old new) (sym (one_told ship e some)) (writes_then _ _ line one)

-- what a call wrote doesn't hang on the number that it answers
pub done_so : (text : List ℕ) (next : ℕ) {old new : SinkState} → Writes {T = ℕ} {E = Failed} text (Ok next) old new
    → Writes {T = Unit {0}} {E = Failed} text (Ok tt) old new
done_so text next {old} {new} writes = written_with text next tt old new writes

pub failed_so : (text : List ℕ) (failed : Failed) {old new : SinkState} → Writes {T = ℕ} {E = Failed} text (Err failed) old new
    → Writes {T = Unit {0}} {E = Failed} text (Err failed) old new
failed_so text failed h1 = grind (arith, common_steps, nat_tests)

-- ---- line by line

-- the text with one entry more
front_more : (ships charge : ℕ) (es : List Entry) (qs : List ℕ) (e : Entry) (q : ℕ) → length qs ≡ length es
    → front_text ships charge (es ++ e ∷ []) (qs ++ q ∷ []) ≡ front_text ships charge es qs ++ told_entry (ship_after ships es) (length es + 1) e q
front_more ships charge es qs e q same =
    ap (λ (l : List ℕ). open_text charge ++ l) (told_and_one ships 1 es qs e q (length es + 1) same (omega arith))
    ∙ sym (append_assoc (open_text charge) (told_text ships 1 es qs) (told_entry (ship_after ships es) (length es + 1) e q))

-- one line more was told
pub told_more : (ships charge : ℕ) (es : List Entry) (qs : List ℕ) (e : Entry) (q : ℕ) {old mid new : SinkState} → length qs ≡ length es
    → Writes {T = Unit {0}} {E = Failed} (front_text ships charge es qs) (Ok tt) old mid
    → Writes {T = Unit {0}} {E = Failed} (told_entry (ship_after ships es) (length es + 1) e q) (Ok tt) mid new
    → Writes {T = Unit {0}} {E = Failed} (front_text ships charge (es ++ e ∷ []) (qs ++ q ∷ [])) (Ok tt) old new
told_more ships charge es qs e q {old} {mid} {new} same before last =
    subst (λ (l : List ℕ). Writes {T = Unit {0}} {E = Failed} l (Ok tt) old new) (sym (front_more ships charge es qs e q same))
    (writes_then _ _ before last)

-- a text was added, and then a front of another
past_added : (first second : List ℕ) (old mid new : Option (List ℕ)) → Adds first old mid → AddsFront second mid new → AddsPast first (first ++ second) old new
past_added first second None mid new adds front = tt
past_added first second (Some held) mid new adds front =
    let (n, within, is) = subst (λ (o : Option (List ℕ)). AddsFront second o new) adds front in
    (length first + n, omega arith, omega (arith, length-append first second), is ∙ ap (λ (l : List ℕ). Some l) (append_assoc held first (take n second) ∙ ap (λ (l : List ℕ). held ++ l) (sym (take-append-add first second n))))

risen_once : {T : Type 0} (text : List ℕ) (failed : Failed) {old new : SinkState} → Writes {T = T} text (Err failed) old new → HasRisenOnce old.faults new.faults
risen_once text failed writes = (writes.cause.no_fall, writes.cause.failed refl, writes.cause.one_fault)

-- the sink failed at the line of the last entry
pub told_but_last : (ships charge : ℕ) (es : List Entry) (qs : List ℕ) (e : Entry) (q : ℕ) (failed : Failed) {old mid new : SinkState}
    → length qs ≡ length es
    → Writes {T = Unit {0}} {E = Failed} (front_text ships charge es qs) (Ok tt) old mid
    → Writes {T = Unit {0}} {E = Failed} (told_entry (ship_after ships es) (length es + 1) e q) (Err failed) mid new
    → IsTold SinkFault ships charge (es ++ e ∷ []) (qs ++ q ∷ []) old new
told_but_last ships charge es qs e q failed {old} {mid} {new} same before last =
    let past = subst (λ (l : List ℕ). AddsPast (front_text ships charge es qs) l old.held new.held) (sym (front_more ships charge es qs e q same))
    (past_added (front_text ships charge es qs) (told_entry (ship_after ships es) (length es + 1) e q) old.held mid.held new.held before.ok
    last.err) in (
      at_last es qs e q refl refl same past,
      subst (λ (n : ℕ). HasRisenOnce n new.faults) before.calm
          (risen_once (told_entry (ship_after ships es) (length es + 1) e q) failed last),
    )

front_past : (text : List ℕ) (old new : Option (List ℕ)) → AddsFront text old new → AddsPast [] text old new
front_past text None new front = tt
front_past text (Some held) new (n, within, is) = (n, omega arith, within, is)

-- or at the first line
pub told_nothing : (ships charge : ℕ) (failed : Failed) {old new : SinkState}
    → Writes {T = Unit {0}} {E = Failed} (open_text charge) (Err failed) old new → IsTold SinkFault ships charge [] [] old new
told_nothing ships charge failed {old} {new} first =
    (at_first refl (front_past (open_text charge) old.held new.held first.err), risen_once (open_text charge) failed first)
