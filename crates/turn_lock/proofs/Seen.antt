-- What is known of a value is known of what follows it.
use Rattle.std.proofs.lemmas.Bool.Decides.{nat_tests}
use Rattle.std.proofs.lemmas.Grind.{common_steps}
use Rattle.std.proofs.Common.{◌≡◌, ◌≢◌, ℕ, ◌≤◌, List, [], ◌∷◌, ◌++◌, length, sym, refl, ap, ◌∙◌, arith, eq-eqb, cond, length-append}
use Rattle.std.proofs.lemmas.List.{append-nil}
use Rattle.std.proofs.lemmas.List.Elements.{filter-append}
use mathlib.Core.List.{IsPrefix}
use Rattle.blsm_model.specs.declared.history.Entry.{Entry}
use Rattle.blsm_model.specs.Facts.{Part, Facts, Eases, Notes, Follows, Same, entries_of}
use Rattle.turn_lock.specs.Views.{total, is_number, Each, Fits, SawFront}

pub prefix_self : {A : Type 0} (xs : List A) → IsPrefix xs xs
prefix_self xs = ([], append-nil xs)

pub eases_self : (p : Part) → Eases p p
eases_self p = record { debt1 = omega arith; debt2 = omega arith; turns = refl; worked = refl; quanta = refl; room = refl; left = refl }

eases_then : (p q r : Part) → Eases p q → Eases q r → Eases p r
eases_then p q r h1 h2 = grind (arith, common_steps, nat_tests)

pub same_self : (i : ℕ) (f : Facts) → Same i f f
same_self i f = record { entries = refl; part = eases_self (f.part i); front = prefix_self f.history }

pub prefix_notes : (seat : ℕ) (xs h k : List Entry) → Notes seat h k → IsPrefix xs h → IsPrefix xs k
prefix_notes seat xs h k h1 h2 = grind (arith, common_steps, nat_tests)

pub entries_note : (i seat : ℕ) (h k : List Entry) → Notes seat h k → i ≢ seat → entries_of i k ≡ entries_of i h
entries_note i seat h k h1 h2 = grind (arith, common_steps, nat_tests)

pub same_follows : (i seat : ℕ) (a f g : Facts) → Follows seat f g → i ≢ seat → Same i a f → Same i a g
same_follows i seat a f g h1 h2 h3 = record {
  entries = entries_note i seat f.history g.history h1.history h2 ∙ h3.entries;
  part = eases_then (a.part i) (f.part i) (g.part i) h3.part (h1.others i h2);
  front = prefix_notes seat a.history f.history g.history h1.history h3.front;
}

pub fits_self : {V : Type 0} (f : V → Facts) (i : ℕ) (v : V) → Fits f (f v).history v (i, v)
fits_self f i v = (same_self i (f v), refl)

pub fits_seen : {V : Type 0} (f : V → Facts) (seen : List Entry) (v : V) (p : ℕ × V) → Fits f seen v p → Fits f (f v).history v p
fits_seen f seen v p fits = (fits.0, refl)

pub fits_follows : {V : Type 0} (f : V → Facts) (seat : ℕ) (seen : List Entry) (a b : V) (p : ℕ × V) → Follows seat (f a) (f b) → p.0 ≢ seat → Fits f seen a p → Fits f seen b p
fits_follows f seat seen a b p follows apart fits = (same_follows p.0 seat (f p.1) (f a) (f b) follows apart fits.0, fits.1 ∙ sym (entries_note p.0 seat (f a).history (f b).history follows.history apart))

pub each_map : {A : Type 0} (P Q : A → Type 0) (xs : List A) → ((x : A) → P x → Q x) → Each P xs → Each Q xs
each_map P Q [] step each = tt
each_map P Q (x ∷ xs) step each = (step x each.0, each_map P Q xs step each.1)

-- what each number had seen, by what is known of the value in the end
pub saw_fronts : {V : Type 0} (f : V → Facts) (seen : List Entry) (v : V) (ps : List (ℕ × V)) → Each (Fits f seen v) ps → Each (SawFront f v) ps
saw_fronts f seen v ps = each_map (Fits f seen v) (SawFront f v) ps (λ p fits. record { front = fits.0.front; own = fits.0.entries })

-- of two beginnings of one list the shorter begins the longer
pub prefix_shorter : {A : Type 0} (xs ys zs : List A) → IsPrefix xs zs → IsPrefix ys zs → length xs ≤ length ys → IsPrefix xs ys
prefix_shorter [] ys zs p q le = (ys, refl)
prefix_shorter (x ∷ xs) [] zs p q le = absurd (omega arith)
prefix_shorter (x ∷ xs) (y ∷ ys) [] p q le = absurd (cc (p.1))
prefix_shorter (x ∷ xs) (y ∷ ys) (z ∷ zs) p q le =
    let heads : x ≡ y = cc (p.1, q.1) in
    let rest = prefix_shorter xs ys zs (p.0, cc (p.1)) (q.0, cc (q.1)) (omega arith) in
    (rest.0, cc (heads, rest.1))

none_more : (xs ys : List Entry) → length (xs ++ ys) ≤ length xs → xs ++ ys ≡ xs
none_more xs ys h1 = grind (arith, common_steps, nat_tests)

-- what was seen last has all entries of a seat, where an earlier sight had
pub entries_between : (i : ℕ) (xs ys zs : List Entry) → IsPrefix xs ys → IsPrefix ys zs → entries_of i xs ≡ entries_of i zs → entries_of i ys ≡ entries_of i zs
entries_between i xs ys zs h1 h2 h3 = grind (arith, common_steps, nat_tests, filter-append, none_more, length-append)

-- numbers among which i isn't
pub each_but : {V : Type 0} (i : ℕ) (P Q : ℕ × V → Type 0) (ps : List (ℕ × V)) → total (is_number i) ps ≡ 0 → ((p : ℕ × V) → p.0 ≢ i → P p → Q p) → Each P ps → Each Q ps
each_but i P Q [] none step each = tt
each_but i P Q (p ∷ ps) none step each = (
  step p (λ e. let here : is_number i p ≡ 1 = ap (λ b. cond b 1 0) (eq-eqb p.0 i e) in absurd (omega arith)) each.0,
  each_but i P Q ps (omega arith) step each.1,
)
