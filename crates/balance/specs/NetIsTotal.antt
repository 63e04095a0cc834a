-- "A group's net MWh equals its total": by so much the open energy falls, and to so much the signed amounts that are shared out add up.
use Rattle.std.specs.Prelude.{List, ◌≡◌, ℕ, ◌+◌, ◌-◌, pos, ◌+ℤ◌}
use Rattle.std.proofs.Common.{arith}
use Rattle.laws.specs.Signed.{value, sumℤ, sumℤ_left, left_taken}
use Rattle.laws.specs.Sums.{sum_to_add}
use Rattle.balance.specs.TakenAndLeft.{group_mwh_lem}
use Rattle.merit.specs.LevelNeverBelowB.{Sound, Took, state_at}
use Rattle.merit.specs.RemainderMoves.{open_all, shift_moved, remainder_moves}
use Rattle.rules.specs.Group.{direct_mwh, incremental_mwh, amount, remainder}
use Rattle.rules.specs.Hour.{took_all}
use Rattle.rules.specs.Refusals.{accepted}
use Rattle.rules.specs.declared.InternalSequence.{InternalSequence}
use Rattle.rules.specs.declared.Running.{Running}

-- the sources stand at ss before the group, at ts after its D lines and at us after its remainder
module _ (number : InternalSequence) (n total : ℕ) (ss ts us : List Running) (took : (i : ℕ) → Took (state_at ss i) (state_at ts i)) (done : remainder number n total (took_all n ss ts) ts ≡ accepted us) where
  pub group_net : open_all us n + total ≡ open_all ss n
  group_net =
      omega (
        arith,
        (remainder_moves number n total (took_all n ss ts) ts us done).net,
        sum_to_add n (λ i. (state_at ts i).v) (λ i. (state_at ts i).d - (state_at ss i).d) (λ i. (state_at ss i).v) (λ i l. omega (arith, (took i).level, (took i).more)),
      )

  pub group_total : ((i : ℕ) → Sound (state_at ss i)) →
      sumℤ (λ i. value (amount direct_mwh (state_at ss i) (state_at ts i) (state_at us i)) +ℤ value (amount incremental_mwh (state_at ss i) (state_at ts i) (state_at us i))) n ≡ pos total
  group_total sound =
      let moves = remainder_moves number n total (took_all n ss ts) ts us done in
      left_taken _ (open_all us n) (open_all ss n) total
      (sumℤ_left (λ i. value (amount direct_mwh (state_at ss i) (state_at ts i) (state_at us i)) +ℤ value (amount incremental_mwh (state_at ss i) (state_at ts i) (state_at us i)))
      (λ i. (state_at us i).v) (λ i. (state_at ss i).v)
      (λ i. group_mwh_lem (state_at ss i) (state_at ts i) (state_at us i) (sound i) (took i) (shift_moved (took i).sound (moves.each i))) n)
      group_net
