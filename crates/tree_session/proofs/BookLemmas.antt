-- The annals of a command: its entry, with its quanta; and the seats' works.
use Rattle.std.specs.Prelude.{◌/◌, IsTrue, slice_index, slice_index_or, slice_set, Option}
use Rattle.std.proofs.lemmas.Grind.{common_steps}
use Rattle.std.proofs.lemmas.Bool.Decides.{nat_tests}
use Rattle.std.proofs.Common.{◌≡◌, ◌∙◌, ⊎_elim, ℕ, ◌+◌, ◌-◌, ◌*◌, ◌≤◌, ◌<◌, true, false, List, [], ◌∷◌, ◌++◌, length, refl, ap, sym, subst, eq-eqb, arith}
use Rattle.std.proofs.lemmas.Bool.{ltb-true, ltb-false, eqb-false, cases_eq}
use Rattle.std.proofs.lemmas.List.{get_or-set_same, get_or-append_right, length-set, set-set, set-get_or, set_past, set-append_right}
use Rattle.blsm_model.specs.Book.{Book, entry_at, no_entry, noted, counted_up, rows_given}
use Rattle.blsm_model.specs.Geometry.{work_bound}
use Rattle.blsm_model.specs.Histories.{is_done, writes_of}
use Rattle.blsm_model.specs.Legal.{is_write, total_weight}
use Rattle.blsm_model.specs.Sizes.{Sizes}
use Rattle.blsm_model.specs.declared.history.Entry.{Entry}
use Rattle.blsm_model.specs.declared.history.Why.{Why}
use Rattle.blsm_model.specs.declared.history.Reply.TheVariants.{Done}
use Rattle.blsm_model.specs.declared.op.Op.{Op}
use Rattle.disk_trait.specs.Disk.{DiskState}
use Rattle.gear_sched.specs.Gears.{first_debt, second_debt}
use Rattle.paced_tree.specs.Numbers.{IsWritten}
use Rattle.seat_book.specs.Places.{HasWrite}
use Rattle.seat_book.specs.State.{BookState}
use Rattle.seat_book.proofs.PlaceLemmas.{write_stands}
use Rattle.tree_machine.specs.Machine.{WorkSoFar, is_worked, no_work}
use Rattle.tree_machine.specs.Plays.{is_finished}
use Rattle.tree_machine.specs.Steps.{is_write_by, last_write, work_reply}
use Rattle.core_moves.specs.declared.held.Held.{Held}
use Rattle.tree_core.specs.Causes.{pages_first}
use Rattle.tree_core.specs.Core.{IsCore}
use Rattle.tree_core.specs.Notes.{OwesNothing}
use Rattle.tree_session.specs.Faults.{NamesStop, faults_of, faults_of_turn}
use Rattle.tree_session.specs.Session.{EasesOthers, most_calls, most_quanta}

-- ---- quanta that are counted

set_none : (l : List ℕ) (place : ℕ) → slice_set l place (slice_index l place + 0) ≡ l
set_none l place = let same : slice_index l place + 0 ≡ slice_index l place = omega arith in ap (λ (n : ℕ). slice_set l place n) same ∙ set-get_or l place 0

set_more : (l : List ℕ) (place n : ℕ) → slice_set (slice_set l place (slice_index l place + n)) place (slice_index (slice_set l place (slice_index l place + n)) place + 1) ≡ slice_set l place (slice_index l place + (n + 1))
set_more l place n = grind (arith, common_steps, nat_tests, get_or-set_same, ltb-true, set-set, ltb-false, set_past)

pub count_none : (book : Book) (place : ℕ) → counted_up book place 0 ≡ book
count_none book place = ap (λ (l : List ℕ). record book { quanta = l }) (set_none book.quanta place)

pub count_more : (book : Book) (place n : ℕ) → counted_up (counted_up book place n) place 1 ≡ counted_up book place (n + 1)
count_more book place n = ap (λ (l : List ℕ). record book { quanta = l }) (set_more book.quanta place n)

-- the quanta of the entry at the end
pub end_counted : (l : List ℕ) (place n : ℕ) → length l ≡ place → slice_set (l ++ 0 ∷ []) place (slice_index (l ++ 0 ∷ []) place + n) ≡ l ++ n ∷ []
end_counted l place n long =
    let zero_there : place - place ≡ 0 = omega arith in
    let none : slice_index (l ++ 0 ∷ []) place ≡ 0 = get_or-append_right l (0 ∷ []) place place 0 long (omega arith) ∙ ap (λ (k : ℕ). slice_index (0 ∷ []) k) zero_there in
    let same : slice_index (l ++ 0 ∷ []) place + n ≡ n = omega (arith, none) in
    ap (λ (k : ℕ). slice_set (l ++ 0 ∷ []) place k) same ∙ set-append_right l (0 ∷ []) place place n long (omega arith) ∙ ap (λ (k : ℕ). l ++ slice_set (0 ∷ []) k n) zero_there

-- the entry at the end
pub entry_at_end : (es : List Entry) (e : Entry) → slice_index_or (es ++ e ∷ []) (length es) no_entry ≡ e
entry_at_end es e = grind (arith, common_steps, nat_tests)

-- ---- what a core keeps of its annals

pub core_places : (held : Held) (d : DiskState) → IsCore held d → length held.book.book.quanta ≡ length held.book.book.entries
core_places held d k = k.holds.told.told.booked.places

pub core_bound : (held : Held) (d : DiskState) (place : ℕ) → IsCore held d → IsWritten held.book.book place
    → slice_index held.book.book.quanta place ≤ work_bound held.runs.sizes (total_weight (writes_of (entry_at held.book.book place).op))
core_bound held d place k written = grind (arith, common_steps, nat_tests)

-- a seat's write that was done
pub written_by : (seat : ℕ) (e : Entry) → is_write_by seat e ≡ true → (is_done e.reply ≡ true) × (is_write e.op ≡ true)
written_by seat e is = grind (arith, common_steps, nat_tests)

-- ---- what is left to pay for a seat's last write

abbrev pub left_in : ℕ → Sizes → Book → ℕ
left_in seat sizes book = work_bound sizes (total_weight (writes_of (entry_at book (last_write seat book.entries)).op)) - slice_index book.quanta (last_write seat book.entries)

pub pays_less : (seat : ℕ) (old new : Held) (d : DiskState) → HasWrite seat old.book.book → IsCore new d → new.book.book ≡ counted_up old.book.book (last_write seat old.book.book.entries) 1 → new.runs.sizes ≡ old.runs.sizes
    → left_in seat new.runs.sizes new.book.book < left_in seat old.runs.sizes old.book.book
pays_less seat old new d has k is sizes = grind (arith, common_steps, nat_tests, core_places, length-set, write_stands, written_by, core_bound, get_or-set_same)

-- ---- a write that was done

-- its calls, and its bound
pub of_write : (sizes : Sizes) (op : Op) (quanta due : ℕ) → is_write op ≡ true
    → (most_calls sizes op quanta due ≡ (pages_first op + (4 + 9 * due)) + (quanta + 1) * (sizes.quantum / 4 + 3)) ×
    (most_quanta sizes op ≡ work_bound sizes (total_weight (writes_of op)))
of_write sizes op quanta due h1 = grind (arith, common_steps, nat_tests)

pub most_of_write : (sizes : Sizes) (op : Op) → is_write op ≡ true → most_quanta sizes op ≡ work_bound sizes (total_weight (writes_of op))
most_of_write sizes op is = (of_write sizes op 0 0 is).1

pub paid_few : (seat n : ℕ) (op : Op) (old new : Held) (d d2 : DiskState) → is_write op ≡ true → IsCore old d → IsCore new d2 → new.runs.sizes ≡ old.runs.sizes
    → new.book.book ≡ counted_up (noted old.book.book (record { seat = seat; op = op; reply = Done })) (length old.book.book.entries) n → n ≤ most_quanta old.runs.sizes op
paid_few seat n op old new d d2 write before after sizes is =
    let entry : Entry = record { seat = seat; op = op; reply = Done } in
    let place = length old.book.book.entries in
    let there : entry_at new.book.book place ≡ entry = ap (λ (b : Book). entry_at b place) is ∙ entry_at_end old.book.book.entries entry in
    let written : IsWritten new.book.book place = subst (λ (e : Entry). IsTrue (is_done e.reply) × IsTrue (is_write e.op)) (sym there) (refl, write) in
    let counted : slice_index new.book.book.quanta place ≡ n =
    ap (λ (b : Book). slice_index b.quanta place) is ∙ ap (λ (l : List ℕ). slice_index l place) (end_counted old.book.book.quanta place n (core_places old d before))
    ∙ get_or-append_right old.book.book.quanta (n ∷ []) place place 0 (core_places old d before) (omega arith) ∙ at_start (place - place) n (omega arith) in
    let most : slice_index new.book.book.quanta place ≤ work_bound old.runs.sizes (total_weight (writes_of op)) =
    subst (λ (e : Entry). slice_index new.book.book.quanta place ≤ work_bound old.runs.sizes (total_weight (writes_of e.op))) there
    (subst (λ (s : Sizes). slice_index new.book.book.quanta place ≤ work_bound s (total_weight (writes_of (entry_at new.book.book place).op))) sizes (core_bound new d2 place after written)) in
    let bound = most_of_write old.runs.sizes op write in
    omega (arith, counted, most, bound)
  where
    at_start : (k m : ℕ) → k ≡ 0 → slice_index (m ∷ []) k ≡ m
    at_start k m is = ap (λ (j : ℕ). slice_index (m ∷ []) j) is

-- its entry is the last write of its seat
pub last_is : (seat : ℕ) (op : Op) (old between : BookState) → is_write op ≡ true → between.book ≡ noted old.book (record { seat = seat; op = op; reply = Done })
    → (last_write seat between.book.entries ≡ length old.book.entries) × HasWrite seat between.book
last_is seat op old between write is = grind (arith, common_steps, nat_tests)

-- ---- debts

pub all_even : (seat : ℕ) (old new : Held) → ((any : ℕ) → OwesNothing any old) → EasesOthers seat old new → OwesNothing seat new → (any : ℕ) → OwesNothing any new
all_even seat old new even eases here any = ⊎_elim
    (λ (same : any ≡ seat). subst (λ (s : ℕ). OwesNothing s new) (sym same) here)
    (λ (apart : any ≡ seat → ⊥). less (first_debt new.gears any) (second_debt new.gears any) (first_debt old.gears any) (second_debt old.gears any) (even any) (eases.first any apart) (eases.second any apart))
    (cases_eq any seat)
  where
    less : (a b c d : ℕ) → c + d ≡ 0 → a ≤ c → b ≤ d → a + b ≡ 0
    less a b c d none one two = omega arith

-- ---- works

-- a work is finished where its last turn didn't work
pub finished_early : (n t : ℕ) (work : WorkSoFar) → work.turns ≡ t + 1 → t < n → is_worked work.last ≡ false → IsTrue (is_finished n work)
finished_early n t work turns below idle = grind (arith, common_steps, nat_tests, eqb-false)

-- or all its turns were made
pub finished_full : (n : ℕ) (work : WorkSoFar) → work.turns ≡ n → IsTrue (is_finished n work)
finished_full n work turns = grind (arith, common_steps, nat_tests, eq-eqb)

-- the reply of a work tells its last turn's fault, and no other stop than the store's, and it gives no rows
pub work_says : (work : WorkSoFar) (stopped : Option Why)
    → (faults_of_turn work.last ≡ faults_of (work_reply work stopped)) × NamesStop (work_reply work stopped) stopped × (length (rows_given (work_reply work stopped)) ≤ 0)
work_says work stopped = grind (arith, common_steps, nat_tests)

-- a work that ended is empty
pub ended_empty : (works : List WorkSoFar) (seat : ℕ) → slice_index_or (slice_set works seat no_work) seat no_work ≡ no_work
ended_empty works seat = grind (arith, common_steps, nat_tests)
