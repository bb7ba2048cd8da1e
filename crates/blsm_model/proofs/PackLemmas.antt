-- Packs: what they weigh, one write more, and the write at a place.
use Rattle.std.proofs.Common.{Bool, true, false, ◌≡◌, ℕ, zero, suc, ◌+◌, ◌-◌, ◌*◌, ◌<◌, ◌≤◌, List, [], ◌∷◌, ◌++◌, length, get_or, take, drop, sum_by}
use Rattle.std.proofs.Common.{refl, ap, sym, subst, ◌∙◌, append_assoc, arith}
use Rattle.std.specs.List.{All, AllByRecursion, list_all}
use Rattle.std.specs.Prelude.{IsTrue}
use Rattle.std.proofs.lemmas.List.{length-take, length-drop, take_all, take-append-le, drop-append-le, drop-drop}
use Rattle.std.proofs.Math.Seq.{take-append_seam, drop-append_seam}
use Rattle.std.proofs.lemmas.List.Sums.{AllPass-from_list_all, list_all-from_AllPass, sum_by-cons, sum_by_more, sum_by-take-drop}
use Rattle.blsm_model.specs.declared.op.Write.{Write}
use Rattle.blsm_model.specs.Legal.{total_weight}
use Rattle.blsm_model.specs.Tails.{TailFits}
use Rattle.blsm_model.specs.Values.{is_removal, key_of, text_written, weight_of}
use Rattle.blsm_model.specs.declared.pack.Kind.{Kind}
use Rattle.blsm_model.specs.declared.pack.Kind.TheVariants as kind
use Rattle.blsm_model.specs.declared.pack.Head.{Head}
use Rattle.blsm_model.specs.Packs.{is_del_head, is_del_kind, AreHeads, FitsTail, IsPack, HasText, IsHead, IsHeadOf, len_of, write_in, write_with}
use Rattle.blsm_model.specs.Packs.{writes_in}

-- ---- weights

weight_with : (k : Kind) (count : ℕ) (key text : List ℕ) → HasText k (length text)
    → weight_of (write_with k count key text) ≡ 13 + length key + length text
weight_with kind.Put count key text has = refl
weight_with kind.Add count key text has = omega arith
weight_with kind.Tail count key text has = refl
weight_with kind.Del count key text has = omega arith

weight_in : (h : Head) (bytes : List ℕ) → IsHead h → len_of h ≤ length bytes → weight_of (write_in h bytes) ≡ 13 + len_of h
weight_in h bytes head long =
    let text : length (take h.text_len (drop h.key_len bytes)) ≡ h.text_len =
    omega (arith, length-take h.text_len (drop h.key_len bytes), length-drop h.key_len bytes) in
    omega (
      arith,
      length-take h.key_len bytes,
      text,
      weight_with h.kind h.count (take h.key_len bytes) (take h.text_len (drop h.key_len bytes)) (subst (HasText h.kind) (sym text) head.text),
    )

pub pack_weight : (hs : List Head) (bytes : List ℕ) → AllByRecursion IsHead hs → sum_by len_of hs ≡ length bytes
    → total_weight (writes_in hs bytes) ≡ 13 * length hs + length bytes
pack_weight [] bytes all whole = omega arith
pack_weight (h ∷ hs) bytes all whole =
    let parts : len_of h + sum_by len_of hs ≡ length bytes = sym (sum_by-cons len_of h hs) ∙ whole in
    let rest : length (drop (len_of h) bytes) ≡ length bytes - len_of h = length-drop (len_of h) bytes in
    omega (
      arith,
      parts,
      rest,
      sum_by-cons weight_of (write_in h bytes) (writes_in hs (drop (len_of h) bytes)),
      pack_weight hs (drop (len_of h) bytes) all.1 (omega (arith, parts, rest)),
      weight_in h bytes all.0 (omega (arith, parts)),
    )

-- each write weighs its overhead at least
pub least_total : (writes : List Write) → 13 * length writes ≤ total_weight writes
least_total [] = omega arith
least_total (w ∷ writes) = omega (arith, sum_by-cons weight_of w writes, least_total writes)

pub length_writes : (hs : List Head) (bytes : List ℕ) → length (writes_in hs bytes) ≡ length hs
length_writes [] bytes = refl
length_writes (h ∷ hs) bytes = ap suc (length_writes hs (drop (len_of h) bytes))

-- ---- one write more

-- a write whose bytes have more behind them
in_front : (h : Head) (bytes more : List ℕ) → len_of h ≤ length bytes → write_in h (bytes ++ more) ≡ write_in h bytes
in_front h bytes more long =
    let key : take h.key_len (bytes ++ more) ≡ take h.key_len bytes = take-append-le h.key_len bytes more (omega arith) in
    let rest : drop h.key_len (bytes ++ more) ≡ drop h.key_len bytes ++ more = drop-append-le h.key_len bytes more (omega arith) in
    let text : take h.text_len (drop h.key_len bytes ++ more) ≡ take h.text_len (drop h.key_len bytes) =
    take-append-le h.text_len (drop h.key_len bytes) more (omega (arith, length-drop h.key_len bytes)) in
    rw (key, rest, text) refl

one_more : (hs : List Head) (bytes more : List ℕ) (h : Head) → sum_by len_of hs ≡ length bytes
    → writes_in (hs ++ h ∷ []) (bytes ++ more) ≡ writes_in hs bytes ++ write_in h more ∷ []
one_more [] [] more h whole = refl
one_more [] (b ∷ bytes) more h whole = absurd (omega arith)
one_more (g ∷ hs) bytes more h whole =
    let parts : len_of g + sum_by len_of hs ≡ length bytes = sym (sum_by-cons len_of g hs) ∙ whole in
    let rest : drop (len_of g) (bytes ++ more) ≡ drop (len_of g) bytes ++ more = drop-append-le (len_of g) bytes more (omega (arith, parts)) in
    let first : write_in g (bytes ++ more) ≡ write_in g bytes = in_front g bytes more (omega (arith, parts)) in
    let others = one_more hs (drop (len_of g) bytes) more h (omega (arith, parts, length-drop (len_of g) bytes)) in
    ap (λ (bs : List ℕ). write_in g (bytes ++ more) ∷ writes_in (hs ++ h ∷ []) bs) rest
    ∙ ap (λ (ws : List Write). write_in g (bytes ++ more) ∷ ws) others
    ∙ ap (λ (w : Write). w ∷ (writes_in hs (drop (len_of g) bytes) ++ write_in h more ∷ [])) first

-- the write whose head it is, of its own bytes
its_write : (h : Head) (w : Write) → IsHeadOf h w → write_in h (key_of w ++ text_written w) ≡ w
its_write h w head =
    let key : take h.key_len (key_of w ++ text_written w) ≡ key_of w = rw head.key (take-append_seam (key_of w) (text_written w)) in
    let rest : drop h.key_len (key_of w ++ text_written w) ≡ text_written w = rw head.key (drop-append_seam (key_of w) (text_written w)) in
    let text : take h.text_len (text_written w) ≡ text_written w = take_all h.text_len (text_written w) (omega (arith, head.long)) in
    rw (key, rest, text) head.is

pub all_more : {X : Type 0} (P : X → Type 0) (xs : List X) (x : X) → AllByRecursion P xs → P x → AllByRecursion P (xs ++ x ∷ [])
all_more P [] x all here = (here, tt)
all_more P (y ∷ xs) x all here = (all.0, all_more P xs x all.1 here)

pub writes_more : (hs : List Head) (bytes key text : List ℕ) (h : Head) (w : Write) → AreHeads hs bytes → IsHeadOf h w → key ≡ key_of w
    → text ≡ text_written w
    → writes_in (hs ++ h ∷ []) ((bytes ++ key) ++ text) ≡ writes_in hs bytes ++ w ∷ []
writes_more hs bytes key text h w are head key_is text_is =
    rw (key_is, text_is, append_assoc)
    (one_more hs bytes (key_of w ++ text_written w) h are.whole ∙ ap (λ (v : Write). writes_in hs bytes ++ v ∷ []) (its_write h w head))

-- there is room for each write of a batch
pub room_left : (writes : List Write) (i : ℕ) (w : Write) → i < length writes
    → total_weight (take i writes) + weight_of (get_or writes i w) + 13 * (length writes - (i + 1)) ≤ total_weight writes
room_left writes i w within =
    omega (
      arith,
      sum_by_more weight_of writes i w within,
      sum_by-take-drop weight_of writes (i + 1),
      least_total (drop (i + 1) writes),
      length-drop (i + 1) writes,
    )

-- ---- the write at a place

all_at : {X : Type 0} (P : X → Type 0) (xs : List X) (i : ℕ) (d : X) → i < length xs → AllByRecursion P xs → P (get_or xs i d)
all_at P [] i d within all = absurd (omega arith)
all_at P (x ∷ xs) zero d within all = all.0
all_at P (x ∷ xs) (suc i) d within all = all_at P xs i d (omega arith) all.1

write_there : (hs : List Head) (bytes : List ℕ) (place : ℕ) (h : Head) (w : Write) → place < length hs
    → get_or (writes_in hs bytes) place w ≡ write_in (get_or hs place h) (drop (sum_by len_of (take place hs)) bytes)
write_there [] bytes place h w within = absurd (omega arith)
write_there (g ∷ hs) bytes zero h w within = refl
write_there (g ∷ hs) bytes (suc place) h w within =
    let parts : sum_by len_of (g ∷ take place hs) ≡ len_of g + sum_by len_of (take place hs) = sum_by-cons len_of g (take place hs) in
    write_there hs (drop (len_of g) bytes) place h w (omega arith)
    ∙ ap (write_in (get_or hs place h)) (drop-drop (sum_by len_of (take place hs)) (len_of g) bytes ∙ ap (λ (n : ℕ). drop n bytes) (sym parts))

pub head_there : (hs : List Head) (bytes : List ℕ) → IsPack hs bytes → (place : ℕ) (h : Head) → place < length hs → IsHead (get_or hs place h)
head_there hs bytes pack place h within = all_at IsHead hs place h within pack.are.each

-- where the slice begins that the write at a place is read from
pub write_read : (hs : List Head) (bytes : List ℕ) (place : ℕ) (h : Head) (w : Write) → place < length hs
    → write_in (get_or hs place h) (take (length bytes - sum_by len_of (take place hs)) (drop (sum_by len_of (take place hs)) bytes))
    ≡ get_or (writes_in hs bytes) place w
write_read hs bytes place h w within =
    let at : ℕ = sum_by len_of (take place hs) in
    ap (write_in (get_or hs place h)) (take_all (length bytes - at) (drop at bytes) (omega (arith, length-drop at bytes)))
    ∙ sym (write_there hs bytes place h w within)

-- ---- what kinds its writes are

del_with : (k : Kind) (count : ℕ) (key text : List ℕ) → is_removal (write_with k count key text) ≡ is_del_kind k
del_with kind.Put count key text = refl
del_with kind.Add count key text = refl
del_with kind.Tail count key text = refl
del_with kind.Del count key text = refl

dels_in : (hs : List Head) (bytes : List ℕ) → list_all is_removal (writes_in hs bytes) ≡ list_all is_del_head hs
dels_in [] bytes = refl
dels_in (h ∷ hs) bytes =
    rw (del_with h.kind h.count (take h.key_len bytes) (take h.text_len (drop h.key_len bytes)), dels_in hs (drop (len_of h) bytes)) refl

same_answer : (a b : Bool) → (a ≡ true → b ≡ true) → (b ≡ true → a ≡ true) → a ≡ b
same_answer true b to back = sym (to refl)
same_answer false true to back = back refl
same_answer false false to back = refl

pub dels_of : (hs : List Head) (bytes : List ℕ) (r : Bool) → (IsTrue r → All (λ h. IsTrue (is_del_head h)) hs)
    → (All (λ h. IsTrue (is_del_head h)) hs → IsTrue r) → r ≡ list_all is_removal (writes_in hs bytes)
dels_of hs bytes r to back =
    same_answer r (list_all is_del_head hs) (λ yes. list_all-from_AllPass is_del_head hs (to yes))
    (λ yes. back (AllPass-from_list_all is_del_head hs yes)) ∙ sym (dels_in hs bytes)

tail_with : (k : Kind) (count : ℕ) (key text : List ℕ) → FitsTail k (length text) → TailFits (write_with k count key text)
tail_with kind.Put count key text fits = tt
tail_with kind.Add count key text fits = tt
tail_with kind.Tail count key text fits = fits
tail_with kind.Del count key text fits = tt

with_tail : (k : Kind) (count : ℕ) (key text : List ℕ) → TailFits (write_with k count key text) → FitsTail k (length text)
with_tail kind.Put count key text fits = tt
with_tail kind.Add count key text fits = tt
with_tail kind.Tail count key text fits = fits
with_tail kind.Del count key text fits = tt

text_long : (h : Head) (bytes : List ℕ) → len_of h ≤ length bytes → length (take h.text_len (drop h.key_len bytes)) ≡ h.text_len
text_long h bytes long = omega (arith, length-take h.text_len (drop h.key_len bytes), length-drop h.key_len bytes)

pub tails_fit : (hs : List Head) (bytes : List ℕ) → sum_by len_of hs ≡ length bytes → AllByRecursion (λ h. FitsTail h.kind h.text_len) hs
    → AllByRecursion TailFits (writes_in hs bytes)
tails_fit [] bytes whole all = tt
tails_fit (h ∷ hs) bytes whole all =
    let parts : len_of h + sum_by len_of hs ≡ length bytes = sym (sum_by-cons len_of h hs) ∙ whole in (
      tail_with h.kind h.count (take h.key_len bytes) (take h.text_len (drop h.key_len bytes))
          (subst (FitsTail h.kind) (sym (text_long h bytes (omega (arith, parts)))) all.0),
      tails_fit hs (drop (len_of h) bytes) (omega (arith, parts, length-drop (len_of h) bytes)) all.1,
    )

pub fit_tails : (hs : List Head) (bytes : List ℕ) → sum_by len_of hs ≡ length bytes → AllByRecursion TailFits (writes_in hs bytes)
    → AllByRecursion (λ h. FitsTail h.kind h.text_len) hs
fit_tails [] bytes whole all = tt
fit_tails (h ∷ hs) bytes whole all =
    let parts : len_of h + sum_by len_of hs ≡ length bytes = sym (sum_by-cons len_of h hs) ∙ whole in (
      subst (FitsTail h.kind) (text_long h bytes (omega (arith, parts)))
          (with_tail h.kind h.count (take h.key_len bytes) (take h.text_len (drop h.key_len bytes)) all.0),
      fit_tails hs (drop (len_of h) bytes) (omega (arith, parts, length-drop (len_of h) bytes)) all.1,
    )
