-- How one crash image is picked, call by call.
use Rattle.std.proofs.lemmas.Grind.{common_steps}
use Rattle.std.proofs.Common.{◌≡◌, ◌≤◌, ◌<◌, ◌+◌, ◌-◌, ℕ, get_or, Bool, IsTrue, List, [], ◌∷◌, length, take, drop, refl, sym, ◌∙◌, ap, subst, arith, length-drop}
use Rattle.std.proofs.lemmas.Bool.Decides.{nat_tests}
use Rattle.disk_trait.specs.Disk.{Torn, overwritten}
use Rattle.disk_trait.specs.Parts.{torn_same}
use Rattle.disk_mem.specs.Events.{Event, wrote, tore, Medium, MayLeave, IsImage, fresh, after, replay}
use Rattle.disk_mem.specs.Calls.{event, events, taken, written_len}
use Rattle.disk_mem.specs.Recorded.{Change, changed_by, is_untouched}
use Rattle.disk_mem.specs.Images.{IsPiece, IsTornBy, beyond, inside, IsTornAs, others, share, Pending, write, writes_in, Track, start, called, follow, Picks, IsPickedOf}
use Rattle.disk_mem.specs.declared.call.Call.{Call}
use Rattle.disk_mem.specs.declared.call.Call.TheVariants.{Wrote, Tore}
use Rattle.disk_mem.proofs.Pieces.{torn_by_piece}

-- a piece is no longer than its write
piece_fits : (old text : List ℕ) (kept : ℕ) (garbled : Bool) (piece : List ℕ) → IsPiece old text kept garbled piece → length piece ≤ length text
piece_fits old text kept garbled piece h1 = grind (arith, common_steps, nat_tests)

torn_by : (at : ℕ) (text : List ℕ) (kept : ℕ) (garbled : Bool) (old new : List ℕ) → IsTornBy at text kept garbled old new → Torn at (length text) old new
torn_by at text kept garbled old new (beyond lt is) = subst (λ (l : List ℕ). Torn at (length text) old l) (sym is) (torn_same at (length text) old)
torn_by at text kept garbled old new (inside piece le stands is) = torn_by_piece at (length text) old new piece le (piece_fits (drop at old) text kept garbled piece stands) is

-- a medium as it is followed: each write since the last sync is pending
abbrev pub pending_of : List (ℕ × List ℕ) → List Pending
pending_of [] = []
pending_of (w ∷ writes) = write w.0 w.1 ∷ pending_of writes

abbrev pub track_of : Medium → Track
track_of m = record { bytes = m.bytes; base = m.base; pending = pending_of m.writes }

-- What a number picks of a disk that nobody else changes is one of the images.
picks_image : (number left : ℕ) (base : List ℕ) (writes : List (ℕ × List ℕ)) (c : List ℕ) → Picks number left base (pending_of writes) c → MayLeave base writes c
picks_image number left base [] c is = is.0
picks_image number left base (w ∷ writes) c (before, d, picks, torn, rest) = (d, picks_image number before base writes d picks, torn_by w.0 w.1 _ _ d c torn)

called_as_after : (e : Event) (m : Medium) → called e (track_of m) ≡ track_of (after e m)
called_as_after e m = grind (arith, common_steps, nat_tests)

follow_untouched : (number : ℕ) (m : Medium) (es : List Event) → follow [] number (track_of m) es ≡ track_of (replay m es)
follow_untouched number m [] = refl
follow_untouched number m (e ∷ es) = ap (λ (t : Track). follow [] (number + 1) t es) (called_as_after e m) ∙ follow_untouched (number + 1) (after e m) es

start_as_fresh : (bytes : List ℕ) → start bytes ≡ track_of (fresh bytes)
start_as_fresh bytes = refl

picked_medium : (pick : ℕ) (m : Medium) (c : List ℕ) → IsPickedOf pick (track_of m) c → IsImage m c
picked_medium pick m c (left, picks) = picks_image pick left m.base m.writes c picks

pub picked_image : (changes : List Change) (first : List ℕ) (es : List Event) (pick : ℕ) (c : List ℕ) → IsTrue (is_untouched changes) → IsPickedOf pick (follow changes 1 (start first) es) c → IsImage (replay (fresh first) es) c
picked_image [] first es pick c untouched picked =
    let same : follow [] 1 (start first) es ≡ track_of (replay (fresh first) es) = ap (λ (t : Track). follow [] 1 t es) (start_as_fresh first) ∙ follow_untouched 1 (fresh first) es in
    picked_medium pick (replay (fresh first) es) c (subst (λ (t : Track). IsPickedOf pick t c) same picked)
picked_image (d ∷ ds) first es pick c untouched picked = absurd (cc)

-- So far the disk reads as `bytes`, the number picks `image` and leaves `choice` for the writes to come, of which the next has this place, and the calls that are left, from this number on, lead to the same end.
pub record IsPicking (changes : List Change) (calls : List Call) (written : List ℕ) (end : Track) (number pick choice index : ℕ) (bytes image : List ℕ) : Type 0 where
  pub track : Track
  pub reads : track.bytes ≡ bytes
  pub picks : Picks pick choice track.base track.pending image
  pub place : index ≡ writes_in track.pending
  pub same_end : follow changes number track (events calls written) ≡ end
  pub counted : written_len calls ≡ length written

-- the same before a call, once the changes before it are made
pub record IsReady (changes : List Change) (call : Call) (calls : List Call) (written : List ℕ) (end : Track) (number pick choice index : ℕ) (bytes image : List ℕ) : Type 0 where
  pub track : Track
  pub reads : track.bytes ≡ bytes
  pub picks : Picks pick choice track.base track.pending image
  pub place : index ≡ writes_in track.pending
  pub same_end : follow changes (number + 1) (called (event call written) track) (events calls (drop (taken call) written)) ≡ end
  pub counted : taken call + written_len calls ≡ length written

pub picking_end : (changes : List Change) (written : List ℕ) (end : Track) (number pick choice index : ℕ) (bytes image : List ℕ) → IsPicking changes [] written end number pick choice index bytes image → IsPickedOf pick end image
picking_end changes written end number pick choice index bytes image p = subst (λ (t : Track). IsPickedOf pick t image) p.same_end (choice, p.picks)

-- the changes before a call are made in the bytes and in the image
pub picking_poked : (changes : List Change) (call : Call) (calls : List Call) (written : List ℕ) (end : Track) (number pick choice index : ℕ) (bytes image bytes' image' : List ℕ)
    → bytes' ≡ changed_by changes number bytes → image' ≡ changed_by changes number image
    → IsPicking changes (call ∷ calls) written end number pick choice index bytes image → IsReady changes call calls written end number pick choice index bytes' image'
picking_poked changes call calls written end number pick choice index bytes image bytes' image' h1 h2 h3 = grind (arith, common_steps, nat_tests)

called_wrote : (at : ℕ) (text : List ℕ) (t : Track) → at ≤ length t.bytes → called (wrote at text) t ≡ record { bytes = overwritten t.bytes at text; base = t.base; pending = write at text ∷ t.pending }
called_wrote at text t le = grind (arith, nat_tests)

-- a list with a first call is that call and the rest
pub first_of : (left : List Call) (first d : Call) → 1 ≤ length left → get_or left 0 d ≡ first → left ≡ first ∷ take (length left - 1) (drop 1 left)
first_of left first d h1 h2 = grind (arith, common_steps, nat_tests)

pub none_of : (left : List Call) → length left < 1 → left ≡ []
none_of left h1 = grind (arith, common_steps, nat_tests)

-- the number of a write's digits, and what is left behind it
pub record IsShare (pick choice index : ℕ) (text : List ℕ) (number left place : ℕ) : Type 0 where
  pub number_is : number ≡ share pick choice index (length text)
  pub left_is : left ≡ others choice (length text)
  pub place_is : place ≡ index + 1

picks_write : (pick choice index : ℕ) (text : List ℕ) (number choice' index' at : ℕ) (base : List ℕ) (pending : List Pending) (image image' : List ℕ) → IsShare pick choice index text number choice' index' → index ≡ writes_in pending → Picks pick choice base pending image
    → IsTornAs number at text image image' → Picks pick choice' base (write at text ∷ pending) image'
picks_write pick choice index text number choice' index' at base pending image image' is place picks torn =
    let same : number ≡ share pick choice (writes_in pending) (length text) = is.number_is ∙ ap (λ (n : ℕ). share pick choice n (length text)) place in
    (choice, image, picks, subst (λ (n : ℕ). IsTornAs n at text image image') same torn, is.left_is)

pub picking_tore : (changes : List Change) (at n : ℕ) (calls : List Call) (written text rest : List ℕ) (end : Track) (number pick choice index share choice' index' : ℕ) (bytes image image' : List ℕ)
    → IsTornAs share at text image image' → IsShare pick choice index text share choice' index' → text ≡ take n written → rest ≡ drop n written
    → IsReady changes (Tore at n) calls written end number pick choice index bytes image → IsPicking changes calls rest end (number + 1) pick choice' index' bytes image'
picking_tore changes at n calls written text rest end number pick choice index share choice' index' bytes image image' torn is text_is rest_is r =
    let on = subst (λ (l : List ℕ). IsTornAs share at l image image') text_is torn in
    let is' = subst (λ (l : List ℕ). IsShare pick choice index l share choice' index') text_is is in
    subst (λ (l : List ℕ). IsPicking changes calls l end (number + 1) pick choice' index' bytes image') (sym rest_is) (record {
      track = called (tore at (take n written)) r.track;
      reads = r.reads;
      picks = picks_write pick choice index (take n written) share choice' index' at r.track.base r.track.pending image image' is' r.place r.picks on;
      place = omega (arith, is.place_is, r.place);
      same_end = r.same_end;
      counted = omega (arith, r.counted, length-drop n written);
    })

pub picking_wrote : (changes : List Change) (at n : ℕ) (calls : List Call) (written text rest : List ℕ) (end : Track) (number pick choice index share choice' index' : ℕ) (bytes image bytes' image' : List ℕ)
    → IsTornAs share at text image image' → IsShare pick choice index text share choice' index' → text ≡ take n written → rest ≡ drop n written → bytes' ≡ overwritten bytes at text → at ≤ length bytes
    → IsReady changes (Wrote at n) calls written end number pick choice index bytes image → IsPicking changes calls rest end (number + 1) pick choice' index' bytes' image'
picking_wrote changes at n calls written text rest end number pick choice index share choice' index' bytes image bytes' image' torn is text_is rest_is writes le r =
    let on = subst (λ (l : List ℕ). IsTornAs share at l image image') text_is torn in
    let is' = subst (λ (l : List ℕ). IsShare pick choice index l share choice' index') text_is is in
    let done : bytes' ≡ overwritten bytes at (take n written) = writes ∙ ap (λ (l : List ℕ). overwritten bytes at l) text_is in
    let within : at ≤ length r.track.bytes = subst (λ (l : List ℕ). at ≤ length l) (sym r.reads) le in
    let same = called_wrote at (take n written) r.track within in
    subst (λ (l : List ℕ). IsPicking changes calls l end (number + 1) pick choice' index' bytes' image') (sym rest_is) (record {
      track = record { bytes = overwritten r.track.bytes at (take n written); base = r.track.base; pending = write at (take n written) ∷ r.track.pending };
      reads = ap (λ (l : List ℕ). overwritten l at (take n written)) r.reads ∙ sym done;
      picks = picks_write pick choice index (take n written) share choice' index' at r.track.base r.track.pending image image' is' r.place r.picks on;
      place = omega (arith, is.place_is, r.place);
      same_end = ap (λ (t : Track). follow changes (number + 1) t (events calls (drop n written))) (sym same) ∙ r.same_end;
      counted = omega (arith, r.counted, length-drop n written);
    })

pub picking_refused : (changes : List Change) (at n : ℕ) (calls : List Call) (written rest : List ℕ) (end : Track) (number pick choice index : ℕ) (bytes image : List ℕ) → length bytes < at → rest ≡ drop n written
    → IsReady changes (Wrote at n) calls written end number pick choice index bytes image → IsPicking changes calls rest end (number + 1) pick choice index bytes image
picking_refused changes at n calls written rest end number pick choice index bytes image h1 h2 h3 = grind (arith, common_steps, nat_tests)
