-- A remainder is refused exactly when there is too little room: unloading with 12, credit with 13.
use Rattle.std.specs.Prelude.{List, refl, ℕ}
use Rattle.std.proofs.Common.{inl, inr, arith}
use Rattle.merit.specs.RemainderMoves.{rooms_last, Unloaded, rung, bottom, no_room, unload_is, Credited, raising, no_headroom, credit_is}
use Rattle.rules.specs.Group.{last, room, headroom, all, unload, credit}
use Rattle.rules.specs.Refusals.{Outcome}
use Rattle.rules.specs.declared.InternalSequence.{InternalSequence}
use Rattle.rules.specs.declared.Refusal.TheVariants.{NoRoom, NoHeadroom}
use Rattle.rules.specs.declared.Running.{Running}
use Rattle.balance.specs.RefusedExactly.{Judged, RefusedExactly, judged_exactly}

module _ (number : InternalSequence) (n : ℕ) (ss : List Running) (r : ℕ) where
  -- 12
  pub unload_refused : RefusedExactly r (all (room last) ss n) (NoRoom number) (unload number n ss r)
  unload_refused = judged_exactly r (all (room last) ss n) (NoRoom number) (unload number n ss r) (go (unload number n ss r) (unload_is number n ss r))
    where
      go : (o : Outcome (List Running)) → Unloaded number n ss r o → Judged r (all (room last) ss n) (NoRoom number) o
      go o (rung x _ h) = inr ((_, refl), omega (arith, rooms_last x ss n))
      go o (bottom a h) = inr ((_, refl), h)
      go o (no_room h) = inl (refl, h)

  -- 13
  pub credit_refused : RefusedExactly r (all headroom ss n) (NoHeadroom number) (credit number n ss r)
  credit_refused = judged_exactly r (all headroom ss n) (NoHeadroom number) (credit number n ss r) (go (credit number n ss r) (credit_is number n ss r))
    where
      go : (o : Outcome (List Running)) → Credited number n ss r o → Judged r (all headroom ss n) (NoHeadroom number) o
      go o (raising h) = inr ((_, refl), h)
      go o (no_headroom h) = inl (refl, h)
