use Prim.Native.Nat.{◌≤◌, ◌-◌}
use Rattle.write_fields.specs.Inked.{Inked, up_to}
use Rattle.write_deck.specs.Deck.{direct_text}
use Rattle.write_deck.proofs.put_directs.Given as goal

abbrev pub invariant-loop-i : goal.invariant-loop-i
invariant-loop-i l = (l.n ≤ 32) × (l.i ≤ l.n) × Inked l.initial.buf l.at l.buf l.p (up_to (direct_text l.h) l.i)
