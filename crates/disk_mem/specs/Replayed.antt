-- A disk that nobody changes reads as its record says.
use Rattle.std.specs.Prelude.{◌≡◌, List, IsTrue, ℕ}
use Rattle.disk_mem.specs.Events.{Event, fresh, replay}
use Rattle.disk_mem.specs.Recorded.{Change, is_untouched}

abbrev pub IsReplayed : List ℕ → List Event → List Change → List ℕ → Type 0
IsReplayed first events changes bytes = IsTrue (is_untouched changes) → bytes ≡ (replay (fresh first) events).bytes
