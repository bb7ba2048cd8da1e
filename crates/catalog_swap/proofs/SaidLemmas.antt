-- The catalogue that bytes say: it is that of each body with which they begin, so there is one at most.
use Rattle.std.proofs.Common.{◌≡◌, ℕ, List, [], ◌∷◌, ◌++◌, zero, suc, take, drop, length, refl, ap, sym, ◌∙◌, arith}
use Rattle.std.specs.Prelude.{Option, Some, None, IfSome}
use Rattle.std.specs.Int.{w16, w32, w64, to_be_bytes, from_be_bytes}
use Rattle.std.proofs.lemmas.List.{take_at, take_all}
use Rattle.std.proofs.lemmas.Nat.{from_be_bytes-to_be_bytes_2, from_be_bytes-to_be_bytes_4, from_be_bytes-to_be_bytes_8}
use Rattle.disk_trait.specs.Disk.{part}
use Rattle.blsm_model.specs.declared.component.Component.{Component}
use Rattle.catalog_swap.specs.declared.catalog.Catalog.{Catalog}
use Rattle.catalog_swap.specs.declared.catalog.Progress.{Progress}
use Rattle.catalog_swap.specs.Text.{AreNumbers, FitsBody, FitsProgress, component_text, numbers_text, progress_text, flagged_text, body_text, BeginsWith}
use Rattle.catalog_swap.proofs.TextLemmas.{numbers_parts, numbers_of, flagged_of, rest_of}

component_in : List ℕ → Component
component_in text = record {
  first = from_be_bytes w32 (part text 0 4);
  pages = from_be_bytes w32 (part text 4 4);
  entries = from_be_bytes w64 (part text 8 8);
  weight = from_be_bytes w64 (part text 16 8);
}

progress_in : List ℕ → Option Progress
progress_in [] = None
progress_in (zero ∷ text) = None
progress_in (suc zero ∷ text) = Some (record {
  output = component_in (part text 0 24);
  next = from_be_bytes w32 (part text 24 4);
  z = from_be_bytes w64 (part text 28 8);
  key = part text 38 (from_be_bytes w16 (part text 36 2));
})
progress_in (suc (suc n) ∷ text) = None

numbers_in : List ℕ → Option Progress → Catalog
numbers_in text progress = record {
  version = from_be_bytes w64 (part text 0 8);
  lanes = part text 8 3;
  c1 = component_in (part text 11 24);
  c1x = component_in (part text 35 24);
  c2 = component_in (part text 59 24);
  progress = progress;
}

pub catalog_in : List ℕ → Catalog
catalog_in bytes = numbers_in (take 83 bytes) (progress_in (drop 83 bytes))

component_back : (c : Component) → AreNumbers c → component_in (component_text c) ≡ c
unfolding component_in component_text
component_back c n = λ i. record {
  first = from_be_bytes-to_be_bytes_4 c.first n.first i;
  pages = from_be_bytes-to_be_bytes_4 c.pages n.pages i;
  entries = from_be_bytes-to_be_bytes_8 c.entries n.entries i;
  weight = from_be_bytes-to_be_bytes_8 c.weight n.weight i;
}

progress_back : (p : Option Progress) (rest : List ℕ) → IfSome p FitsProgress → progress_in (flagged_text p ++ rest) ≡ p
unfolding progress_in component_text progress_text
progress_back None rest fits = refl
progress_back (Some p) rest fits =
    let short = fits.short_key in
    let long : from_be_bytes w16 (to_be_bytes w16 (length p.key)) ≡ length p.key = from_be_bytes-to_be_bytes_2 (length p.key) (omega (arith, short)) in
    let output = component_back p.output fits.output in
    let next = from_be_bytes-to_be_bytes_4 p.next fits.next in
    let z = from_be_bytes-to_be_bytes_8 p.z fits.z in
    let key = ap (λ (n : ℕ). take n (p.key ++ rest)) long ∙ take_at p.key rest (length p.key) refl in
    λ i. Some (record { output = output i; next = next i; z = z i; key = key i })

numbers_back : (c : Catalog) → FitsBody c → numbers_in (numbers_text c) c.progress ≡ c
unfolding numbers_in
numbers_back c f =
    let parts = numbers_parts c f.lanes in
    λ i. record {
      version = (ap (from_be_bytes w64) parts.0 ∙ from_be_bytes-to_be_bytes_8 c.version f.version) i;
      lanes = parts.1 i;
      c1 = (ap component_in parts.2 ∙ component_back c.c1 f.c1) i;
      c1x = (ap component_in parts.3 ∙ component_back c.c1x f.c1x) i;
      c2 = (ap component_in parts.4 ∙ component_back c.c2 f.c2) i;
      progress = c.progress;
    }

pub catalog_back : (c : Catalog) (bytes : List ℕ) → FitsBody c → BeginsWith bytes c → catalog_in bytes ≡ c
unfolding catalog_in
catalog_back c bytes f begins =
    let numbers = numbers_of c bytes f.lanes begins in
    let progress = ap progress_in (flagged_of c bytes f.lanes begins) ∙ progress_back c.progress (rest_of bytes c) f.progress in
    (λ i. numbers_in (numbers i) (progress i)) ∙ numbers_back c f

pub front_same : (a b : Catalog) (bytes : List ℕ) → FitsBody a → FitsBody b → BeginsWith bytes a → BeginsWith bytes b → a ≡ b
front_same a b bytes fa fb one other = sym (catalog_back a bytes fa one) ∙ catalog_back b bytes fb other

whole : (c : Catalog) → BeginsWith (body_text c) c
whole c = take_all (length (body_text c)) (body_text c) (omega arith)

pub body_same : (a b : Catalog) → FitsBody a → FitsBody b → body_text a ≡ body_text b → a ≡ b
body_same a b fa fb same = front_same a b (body_text a) fa fb (whole a) (ap (λ (l : List ℕ). take (length (body_text b)) l) same ∙ whole b)
