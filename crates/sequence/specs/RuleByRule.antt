-- A rule that no delivery passes has no match.
use Rattle.std.specs.Prelude.{Bool, true, false, not, ◌&&◌, List, ◌≡◌, refl, ℕ, zero, suc, get_or}
use Rattle.std.proofs.Math.Option.{none, some}
use Rattle.std.proofs.Common.{ap₂}
use Rattle.rules.specs.Sequences.{no_delivery, times_ten, to_place, joined, matches}
use Rattle.rules.specs.Words.{when◌then◌else◌}
use Rattle.rules.specs.declared.Delivery.{Delivery}

-- nothing passes, and so nothing matches
pub matches_nothing : (f : ℕ → ℕ → ℕ) (ts : List Delivery) (n : ℕ) → matches f (λ o. false) ts n ≡ none
unfolding matches
matches_nothing f ts zero = refl
matches_nothing f ts (suc n) = ap₂ (joined f) (matches_nothing f ts n) (go (not (to_place (get_or ts n no_delivery))))
  where
    go : (b : Bool) → (when b && false then some (times_ten (get_or ts n no_delivery).sequence) else none) ≡ none
    go true = refl
    go false = refl
