-- A member's share in the words of running sums: what the members have with it less what they had before it.
use Rattle.std.specs.Prelude.{true, List, ◌≡◌, ℕ, zero, suc, ◌^◌, ◌+◌, ◌-◌, ◌<◌, pos, neg_ℤ, ◌-ℤ◌, get_or}
use Rattle.std.proofs.Common.{◌∙◌, arith, to_z-of_z, SFits, to_z, of_z}
use Rattle.std.proofs.Math.IntN.{+ℤ_idl}
use Rattle.std.proofs.Math.Facts.{to_z_pos, sfits_lit}
use Rattle.std.specs.Int.{w64}
use Rattle.rules.specs.Group.{Amount, signed, up_to}
use Rattle.rules.specs.Hour.{member, scheduled, counted, share}
use Rattle.rules.specs.Sequences.{no_delivery}
use Rattle.rules.specs.Words.{sum_to}
use Rattle.rules.specs.declared.Hour.{Hour}
use Rattle.rules.specs.declared.Key.{Key}

-- a member of group x has what is more with it
pub member_share : (h : Hour) (ks : List Key) (x : Key) (a : Amount) (j : ℕ) → member ks x j ≡ true →
    let total = scheduled h ks x h.ndeliveries in
    share h ks x a j ≡ signed a.minus
    (up_to total a.size (counted ks x j + 1) (scheduled h ks x j + (get_or h.deliveries j no_delivery).mwh) - up_to total a.size (counted ks x j) (scheduled h ks x j))
unfolding share sum_to
member_share h ks x a j e = rw e

-- Signed numbers.

neg_is : (x : ℕ) → x < 2 ^ 63 → pos 0 -ℤ to_z w64 x ≡ neg_ℤ (pos x)
neg_is x h = rw (to_z_pos w64 h) (+ℤ_idl (neg_ℤ (pos x)))

neg_fits : (x : ℕ) → x < 2 ^ 63 → SFits w64 (neg_ℤ (pos x))
neg_fits zero h = sfits_lit tt
neg_fits (suc x) h = record { sfits = omega arith }

pub sub_fits : (x : ℕ) → x < 2 ^ 63 → SFits w64 (pos 0 -ℤ to_z w64 x)
sub_fits x h = rw neg_is (neg_fits x h)

pub neg_back : (x : ℕ) → x < 2 ^ 63 → to_z w64 (of_z w64 (pos 0 -ℤ to_z w64 x)) ≡ signed true x
neg_back x h = to_z-of_z (sub_fits x h) ∙ neg_is x h
