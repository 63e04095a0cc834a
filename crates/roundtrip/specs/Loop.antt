-- The reader's loop: with fuel for the bytes that are left, a turn is one line, and each way out is what reading gives.
use Rattle.std.specs.Prelude.{◌≡◌, true, false, List, length}
use Rattle.std.proofs.Common.{sym, ◌∙◌, eq-eqb, ne_eqb}
use Prim.Native.Nat.{ℕ, zero, suc, ◌+◌, ◌-◌, ◌≤◌}
use native.Mathlib.Omega.{arith}
use Rattle.std.proofs.Math.ListN.{get_or-eq_default}
use Rattle.rules.specs.Refusals.{Outcome, accepted, refused}
use Rattle.rules.specs.Fields.{got, malformed}
use Rattle.rules.specs.Lines as lines
use Rattle.rules.specs.Lines.{Line, line_at}
use Rattle.rules.specs.Reading as reading
use Rattle.rules.specs.Reading.{line_number, taken, finished, is_end, on_line, turn, lines_from}
use Rattle.rules.specs.declared.Hour.{Hour}
use Rattle.rules.specs.declared.Refusal.{Refusal}
use Rattle.rules.specs.declared.Refusal.TheVariants.{Form}
use Rattle.roundtrip.specs.Lines.{line_ends}
use Rattle.roundtrip.specs.Taken.{taken_passed}

module _ (s : List ℕ) where
  no_line : (at : ℕ) → length s ≤ at → line_at s at ≡ malformed
  unfolding lines.line_at lines.letter_of
  no_line at h = rw (get_or-eq_default s 0 h)

  turn_at : (f : ℕ) (h : Hour) (at : ℕ) → length s - at ≤ f → lines_from f s h at ≡ on_line (line_at s at) (Form (line_number h)) (turn s h (lines_from (f - 1) s))
  unfolding reading.lines_from
  turn_at zero h at le = rw (no_line at (omega arith))
  turn_at (suc f) h at le = let k : suc f - 1 ≡ f = omega arith in rw k

  -- what the loop keeps: reading on from here gives what reading from the start gives
  pub record Going (h : Hour) (at : ℕ) (t : Outcome Hour) : Type 0 where
    pub fuel : ℕ
    pub enough : length s - at ≤ fuel
    pub same : lines_from fuel s h at ≡ t

  module _ (h : Hour) (at : ℕ) (t : Outcome Hour) (g : Going h at t) where
    goes : t ≡ on_line (line_at s at) (Form (line_number h)) (turn s h (lines_from (g.fuel - 1) s))
    goes = sym g.same ∙ turn_at g.fuel h at g.enough

    pub goes_malformed : line_at s at ≡ malformed → t ≡ refused (Form (line_number h))
    goes_malformed e = goes ∙ rw e

    module _ (l : Line) (next : ℕ) (e : line_at s at ≡ got l next) where
      pub goes_on : (after : Hour) → taken h l ≡ accepted after → Going after next t
      goes_on after k =
          let p = taken_passed h l after k in
          let m = line_ends l s at next e p.within in
          record { fuel = g.fuel - 1; enough = omega (arith, g.enough, m.0, m.1); same = sym (goes ∙ rw (e, p.not_end, k)) }

      pub goes_refused : (r : Refusal) → is_end l.letter ≡ false → taken h l ≡ refused r → t ≡ refused r
      goes_refused r i k = goes ∙ rw (e, i, k)

      pub goes_end : is_end l.letter ≡ true → next ≡ length s → t ≡ finished h
      goes_end i n = goes ∙ rw (e, i, eq-eqb next (length s) n)

      pub goes_past : is_end l.letter ≡ true → (next ≡ length s → ⊥) → t ≡ refused (Form (line_number h + 1))
      goes_past i n = goes ∙ rw (e, i, ne_eqb next (length s) n)
