-- The writing of a valid hour is read back to that hour.
use Rattle.std.specs.Prelude.{◌≡◌, true, drop}
use Rattle.std.proofs.Math.Path.{refl, ap}
use Rattle.std.proofs.Common.{◌∙◌, arith}
use mathlib.Core.List.{List, [], ◌∷◌}
use Prim.Native.Nat.{ℕ, zero, suc, ◌+◌, ◌<◌, ◌≤◌}
use Rattle.std.proofs.Math.ListN.{length, length-drop}
use borrow.Author.Tests.{le-ltb, eq-eqb}
use Rattle.rules.specs.Refusals.{accepted}
use Rattle.rules.specs.Lines as lines
use Rattle.rules.specs.Lines.{Line, line_text}
use Rattle.rules.specs.Record.{started, head_line, end_line, body}
use Rattle.rules.specs.Reading as reading
use Rattle.rules.specs.Reading.{taken, feed, finished, lines_from}
use Rattle.rules.specs.Writing as writing
use Rattle.rules.specs.Writing.{texts, deck_text, all_labelled, valid}
use Rattle.rules.specs.declared.Hour.{Hour}
use Rattle.laws.specs.Choices.{both_true, accepted_same, then_passed}
use Rattle.roundtrip.specs.Lines.{line_labelled, line_size, line_read, line_past, line_length}
use Rattle.roundtrip.specs.Taken.{taken_passed}
use Rattle.roundtrip.specs.OwnLines.{OwnLines, head_passed, valid_own}
use Rattle.roundtrip.specs.DeckFits.{own_at_most}

-- a line has a byte
texts_length : (ls : List Line) (rest : List ℕ) → length ls + length rest ≤ length (texts ls rest)
unfolding writing.texts
texts_length [] rest = omega arith
texts_length (l ∷ ls) rest = omega (arith, line_length l (texts ls rest), texts_length ls rest)

module _ (s : List ℕ) where
  end_read : (h : Hour) (at f : ℕ) → drop at s ≡ line_text end_line [] → lines_from (suc f) s h at ≡ finished h
  unfolding reading.lines_from lines.ranged lines.labelled
  end_read h at f t =
      let k : at + line_size end_line ≡ length s = omega (arith, length-drop at s, ap length t, line_length end_line []) in
      rw (line_read end_line s [] at t refl refl, eq-eqb (at + line_size end_line) (length s) k)

  -- lines that are fed are read in turn
  fed_read : (ls : List Line) (h after : Hour) (at f : ℕ) → feed h ls ≡ accepted after → all_labelled ls ≡ true → drop at s ≡ texts ls (line_text end_line [])
      → length ls < f → lines_from f s h at ≡ finished after
  unfolding reading.feed reading.lines_from writing.texts writing.all_labelled
  fed_read ls h after at zero e lb t lt = absurd (omega arith)
  fed_read [] h after at (suc f) e lb t lt = end_read h at f t ∙ ap finished (accepted_same h after e)
  fed_read (l ∷ ls) h after at (suc f) e lb t lt =
      let a = then_passed (taken h l) (λ m. feed m ls) after e in
      let p = taken_passed h l a.mid a.first in
      let b = both_true (line_labelled l) (all_labelled ls) lb in
      let w = texts ls (line_text end_line []) in
      rw (line_read l s w at t p.within b.0, p.not_end, a.first)
      (fed_read ls a.mid after (at + line_size l) f a.second b.1 (line_past l s w at t) (omega arith))

own_read : (h : Hour) → OwnLines h → reading.reading (deck_text h) ≡ accepted h
unfolding reading.reading writing.deck_text lines.labelled
own_read h o =
    let w = texts (body h) (line_text end_line []) in
    let s = line_text (head_line h) w in
    let short = own_at_most h o in
    let long = line_length (head_line h) w in
    let some = texts_length (body h) (line_text end_line []) in
    let end = line_length end_line [] in
    rw (le-ltb 8192 (length s) (omega arith), line_read (head_line h) s w 0 refl (head_passed h (started h.losses) o.head).0 refl, o.head)
    (fed_read s (body h) (started h.losses) h (0 + line_size (head_line h)) (length s) o.fed o.labels (line_past (head_line h) s w 0 refl) (omega arith) ∙ o.done)

pub valid_read : (h : Hour) → valid h ≡ true → reading.reading (deck_text h) ≡ accepted h
valid_read h v = own_read h (valid_own h v)
