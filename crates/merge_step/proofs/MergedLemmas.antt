-- Lists of keys and values that are put together, over any total order.
use Rattle.std.proofs.Common.{◌≡◌, Bool, true, false, not, cond, ◌&&◌, T, [], ◌∷◌, ◌++◌, Option, Some, None, refl, ap, sym, subst, ◌∙◌}
use Rattle.std.specs.Ordering.{is_lt, is_eq, eq_by_cmp, ordering_reverse}
use Rattle.std.specs.declared.cmp.Ordering.{Ordering}
use Rattle.std.specs.declared.cmp.Ordering.TheVariants.{Less, Equal, Greater}
use Rattle.std.specs.Cmp.{tied_itself}
use Rattle.std.specs.FinMap.{find, put, is_sorted, slice_cmp-IsAntisymmetric, nat_cmp-IsAntisymmetric}
use Rattle.std.specs.FinMap.Entries.{below_all, by_order, where_key, find-put, is_sorted-put}
use Rattle.std.proofs.lemmas.Bool.{false≢true}
use Rattle.std.proofs.lemmas.Cmp.{nat_list_cmp_total}
use Rattle.blsm_model.specs.declared.key.Key.{Key}
use Rattle.blsm_model.specs.Keys.{key_cmp}
use Rattle.record_delta.specs.declared.record.Rec.{Rec}
use Rattle.record_delta.specs.Folding.{fold, over}
use Rattle.record_delta.specs.Entries.{Entries, folded_over, over_any, with_record, is_above, up_to}
use Rattle.merge_step.specs.Merged.{IsPast}

pub left : (a b : Bool) → T (a && b) → T a
left true b h = tt
left false b h = absurd h

pub right : (a b : Bool) → T (a && b) → T b
right true b h = h
right false b h = absurd h

pub less : (o : Ordering) → T (is_lt o) → o ≡ Less
less Less h = refl
less Equal h = absurd h
less Greater h = absurd h

equal : (o : Ordering) → is_eq o ≡ true → o ≡ Equal
equal Less h = absurd (false≢true h)
equal Equal h = refl
equal Greater h = absurd (false≢true h)

pub test : (b : Bool) → b ≡ true → T b
test b is = subst T (sym is) tt

pub is_true : (b : Bool) → T b → b ≡ true
is_true true h = refl
is_true false h = absurd h

pub same : (a b : Key) → key_cmp a b ≡ Equal → a ≡ b
same a b tied = slice_cmp-IsAntisymmetric nat_cmp-IsAntisymmetric a b tied

-- a key below all of a list's isn't in it
below_none : (key : Key) (es : Entries) → T (below_all key_cmp key es) → find key_cmp key es ≡ None
below_none key [] h = refl
below_none key (e ∷ es) h = ap (λ r. cond (is_eq r) (Some e.1) (find key_cmp key es)) (less _ (left _ _ h)) ∙ below_none key es (right _ _ h)

pub find_folded : (key : Key) (newer older : Entries) → is_sorted key_cmp newer ≡ true
    → find key_cmp key (folded_over newer older) ≡ over_any (find key_cmp key newer) (find key_cmp key older)
find_folded key [] older sorted = refl
find_folded key (e ∷ es) older sorted =
    let rest = folded_over es older in
    let parts : T (below_all key_cmp e.0 es && is_sorted key_cmp es) = test _ sorted in
    let tail : is_sorted key_cmp es ≡ true = is_true _ (right _ _ parts) in
    let older_at : find key_cmp e.0 rest ≡ find key_cmp e.0 older =
    find_folded e.0 es older tail ∙ ap (λ o. over_any o (find key_cmp e.0 older)) (below_none e.0 es (left _ _ parts)) in
    find-put key_cmp nat_list_cmp_total key e.0 (over e.1 (find key_cmp e.0 rest)) rest
    ∙ elim (eq_by_cmp key_cmp key e.0) as (λ b. eq_by_cmp key_cmp key e.0 ≡ b
    → cond b (Some (over e.1 (find key_cmp e.0 rest))) (find key_cmp key rest) ≡ over_any (cond b (Some e.1) (find key_cmp key es)) (find key_cmp key older)) [
      | true ↦ λ tied. ap (λ o. Some (over e.1 o)) (older_at ∙ ap (λ k. find key_cmp k older) (sym (same key e.0 (equal _ tied))))
      | false ↦ λ apart. find_folded key es older tail
    ] refl

pub sorted_folded : (newer older : Entries) → is_sorted key_cmp older ≡ true → is_sorted key_cmp (folded_over newer older) ≡ true
sorted_folded [] older sorted = sorted
sorted_folded (e ∷ es) older sorted = is_true _ (is_sorted-put key_cmp nat_list_cmp_total e.0 _ (folded_over es older) (test _ (sorted_folded es older sorted)))

-- what fails the test is put among those that are passed over
passed_over : (p : Key → Bool) (key : Key) (rec : Rec) (es : Entries) → p key ≡ false → where_key key_cmp p (put key_cmp key rec es) ≡ where_key key_cmp p es
passed_over p key rec [] fails = ap (λ b. cond b ((key, rec) ∷ []) []) fails
passed_over p key rec (e ∷ es) fails =
    elim (key_cmp key e.0) as (λ r. key_cmp key e.0 ≡ r
    → where_key key_cmp p (by_order r ((key, rec) ∷ e ∷ es) ((e.0, rec) ∷ es) (e ∷ put key_cmp key rec es)) ≡ where_key key_cmp p (e ∷ es)) [
      | Less ↦ λ is. ap (λ b. cond b ((key, rec) ∷ where_key key_cmp p (e ∷ es)) (where_key key_cmp p (e ∷ es))) fails
      | Equal ↦ λ is.
          let fails_here : p e.0 ≡ false = ap p (sym (same key e.0 is)) ∙ fails in
          ap (λ b. cond b ((e.0, rec) ∷ where_key key_cmp p es) (where_key key_cmp p es)) fails_here
          ∙ sym (ap (λ b. cond b (e ∷ where_key key_cmp p es) (where_key key_cmp p es)) fails_here)
      | Greater ↦ λ is. ap (λ l. cond (p e.0) (e ∷ l) l) (passed_over p key rec es fails)
    ] refl

pub ahead : (at : Option Key) (key : Key) (rec : Rec) (entries : Entries) → is_above at key ≡ true → up_to at (with_record key rec entries) ≡ up_to at entries
ahead at key rec entries above = passed_over (λ k. not (is_above at k)) key (over rec (find key_cmp key entries)) entries (ap not above)

-- ---- a key above all that is there

pub turned : (a b : Key) (r : Ordering) → key_cmp a b ≡ r → key_cmp b a ≡ ordering_reverse r
turned a b r is = nat_list_cmp_total.antisymm b a ∙ ap ordering_reverse is

find_past : (key : Key) (es : Entries) → IsPast es key → find key_cmp key es ≡ None
find_past key [] past = refl
find_past key (e ∷ es) past = ap (λ r. cond (is_eq r) (Some e.1) (find key_cmp key es)) (turned e.0 key Less past.0) ∙ find_past key es past.1

put_past : (key : Key) (rec : Rec) (es : Entries) → IsPast es key → put key_cmp key rec es ≡ es ++ (key, rec) ∷ []
put_past key rec [] past = refl
put_past key rec (e ∷ es) past =
    ap (λ r. by_order r ((key, rec) ∷ e ∷ es) ((e.0, rec) ∷ es) (e ∷ put key_cmp key rec es)) (turned e.0 key Less past.0) ∙ ap (λ l. e ∷ l) (put_past key rec es past.1)

find_before : (key : Key) (es : Entries) (last : Key × Rec) → key_cmp key last.0 ≡ Less → find key_cmp key (es ++ last ∷ []) ≡ find key_cmp key es
find_before key [] last less = ap (λ r. cond (is_eq r) (Some last.1) None) less
find_before key (e ∷ es) last less = ap (λ o. cond (eq_by_cmp key_cmp key e.0) (Some e.1) o) (find_before key es last less)

put_before : (key : Key) (rec : Rec) (es : Entries) (last : Key × Rec) → key_cmp key last.0 ≡ Less
    → put key_cmp key rec (es ++ last ∷ []) ≡ put key_cmp key rec es ++ last ∷ []
put_before key rec [] last less = ap (λ r. by_order r ((key, rec) ∷ last ∷ []) ((last.0, rec) ∷ []) (last ∷ (key, rec) ∷ [])) less
put_before key rec (e ∷ es) last less =
    elim (key_cmp key e.0) as (λ r. by_order r ((key, rec) ∷ e ∷ es ++ last ∷ []) ((e.0, rec) ∷ es ++ last ∷ []) (e ∷ put key_cmp key rec (es ++ last ∷ []))
    ≡ by_order r ((key, rec) ∷ e ∷ es) ((e.0, rec) ∷ es) (e ∷ put key_cmp key rec es) ++ last ∷ []) [
      | Less ↦ refl
      | Equal ↦ refl
      | Greater ↦ ap (λ l. e ∷ l) (put_before key rec es last less)
    ]

with_before : (key : Key) (rec : Rec) (es : Entries) (last : Key × Rec) → key_cmp key last.0 ≡ Less
    → with_record key rec (es ++ last ∷ []) ≡ with_record key rec es ++ last ∷ []
with_before key rec es last less =
    ap (λ o. put key_cmp key (over rec o) (es ++ last ∷ [])) (find_before key es last less) ∙ put_before key (over rec (find key_cmp key es)) es last less

pub step_older : (newer older : Entries) (key : Key) (rec : Rec) → IsPast newer key
    → folded_over newer (older ++ (key, rec) ∷ []) ≡ folded_over newer older ++ (key, rec) ∷ []
step_older [] older key rec past = refl
step_older (e ∷ es) older key rec past =
    ap (λ l. with_record e.0 e.1 l) (step_older es older key rec past.1) ∙ with_before e.0 e.1 (folded_over es older) (key, rec) past.0

pub step_newer : (newer older : Entries) (key : Key) (rec : Rec) → IsPast newer key → IsPast older key
    → folded_over (newer ++ (key, rec) ∷ []) older ≡ folded_over newer older ++ (key, rec) ∷ []
step_newer [] older key rec past past_older = ap (λ o. put key_cmp key (over rec o) older) (find_past key older past_older) ∙ put_past key rec older past_older
step_newer (e ∷ es) older key rec past past_older =
    ap (λ l. with_record e.0 e.1 l) (step_newer es older key rec past.1 past_older) ∙ with_before e.0 e.1 (folded_over es older) (key, rec) past.0

find_last : (key : Key) (below : Rec) (es : Entries) → IsPast es key → find key_cmp key (es ++ (key, below) ∷ []) ≡ Some below
find_last key below [] past = ap (λ r. cond (is_eq r) (Some below) None) (tied_itself nat_list_cmp_total key)
find_last key below (e ∷ es) past =
    ap (λ r. cond (is_eq r) (Some e.1) (find key_cmp key (es ++ (key, below) ∷ []))) (turned e.0 key Less past.0) ∙ find_last key below es past.1

put_last : (key : Key) (rec below : Rec) (es : Entries) → IsPast es key → put key_cmp key rec (es ++ (key, below) ∷ []) ≡ es ++ (key, rec) ∷ []
put_last key rec below [] past = ap (λ r. by_order r ((key, rec) ∷ (key, below) ∷ []) ((key, rec) ∷ []) ((key, below) ∷ (key, rec) ∷ [])) (tied_itself nat_list_cmp_total key)
put_last key rec below (e ∷ es) past =
    ap (λ r. by_order r ((key, rec) ∷ e ∷ es ++ (key, below) ∷ []) ((e.0, rec) ∷ es ++ (key, below) ∷ []) (e ∷ put key_cmp key rec (es ++ (key, below) ∷ []))) (turned e.0 key Less past.0)
    ∙ ap (λ l. e ∷ l) (put_last key rec below es past.1)

pub step_both : (newer older : Entries) (key : Key) (rec below : Rec) → IsPast newer key → IsPast older key
    → folded_over (newer ++ (key, rec) ∷ []) (older ++ (key, below) ∷ []) ≡ folded_over newer older ++ (key, fold rec below) ∷ []
step_both [] older key rec below past past_older =
    ap (λ o. put key_cmp key (over rec o) (older ++ (key, below) ∷ [])) (find_last key below older past_older) ∙ put_last key (fold rec below) below older past_older
step_both (e ∷ es) older key rec below past past_older =
    ap (λ l. with_record e.0 e.1 l) (step_both es older key rec below past.1 past_older) ∙ with_before e.0 e.1 (folded_over es older) (key, fold rec below) past.0
