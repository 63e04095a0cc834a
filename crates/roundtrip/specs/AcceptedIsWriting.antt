-- A deck that is accepted is the writing of its hour, and the hour's own lines give it.
use Rattle.std.specs.Prelude.{◌≡◌, Bool, List, [], ◌∷◌, ◌++◌, ltb, length}
use Rattle.std.proofs.Math.Path.{refl, ap, sym}
use Rattle.std.proofs.Common.{subst, ◌∙◌, eqb-true}
use Rattle.std.proofs.Math.Bool.{true, false}
use Prim.Native.Nat.{ℕ, zero, suc, ◌+◌}
use Rattle.std.proofs.Math.Dec.{eqb}
use Rattle.std.proofs.Math.ListN.{drop}
use Rattle.std.proofs.Math.Seq.{drop-length}
use Rattle.rules.specs.Words.{when◌then◌else◌}
use Rattle.rules.specs.Refusals.{Outcome, accepted, refused, and_then}
use Rattle.rules.specs.Fields.{Field, got, malformed, Chars}
use Rattle.rules.specs.Lines as lines
use Rattle.rules.specs.Lines.{Letter, H, U, P, F, T, D, E, Fields, fields_of, Line, line, line_at, line_text}
use Rattle.rules.specs.Record.{started, head_line, end_line, body}
use Rattle.rules.specs.Reading as reading
use Rattle.rules.specs.Reading.{line_number, taken, feed, headed, finished, is_end, on_line, turn, lines_from}
use Rattle.rules.specs.Writing as writing
use Rattle.rules.specs.Writing.{texts, deck_text, all_labelled}
use Rattle.rules.specs.declared.Hour.{Hour}
use Rattle.rules.specs.declared.Refusal.{Refusal}
use Rattle.rules.specs.declared.Refusal.TheVariants.{TooLong, Form}
use Rattle.laws.specs.Choices.{false_not_true, refused_not_accepted, refuse_passed, then_passed}
use Rattle.roundtrip.specs.Lines.{line_stood}
use Rattle.roundtrip.specs.Taken.{taken_passed, headed_passed, finished_passed}
use Rattle.roundtrip.specs.Entries.{Entries, started_entries}
use Rattle.roundtrip.specs.Grown.{started_body, fed_grown}
use Rattle.roundtrip.specs.OwnLines.{OwnLines}

-- Lines from a place on.

-- what is accepted on a line was got
record Lined (x : Field Line) (on : Line → ℕ → Outcome Hour) (after : Hour) : Type 0 where
  line_read : Line
  next : ℕ
  is : x ≡ got line_read next
  goes : on line_read next ≡ accepted after

line_passed : (x : Field Line) (r : Refusal) (on : Line → ℕ → Outcome Hour) (after : Hour) → on_line x r on ≡ accepted after → Lined x on after
line_passed (got l n) r on after e = record { line_read = l; next = n; is = refl; goes = e }
line_passed malformed r on after e = refused_not_accepted r after e

record Fed (s : List ℕ) (h : Hour) (at : ℕ) (after : Hour) : Type 0 where
  ls : List Line
  fed : feed h ls ≡ accepted after
  done : finished after ≡ accepted after
  labels : all_labelled ls ≡ true
  text : drop at s ≡ texts ls (line_text end_line [])

end_line_lem : (l : Letter) (v : Fields Chars (fields_of l)) → is_end l ≡ true → line l v ≡ end_line
end_line_lem H v e = false_not_true e
end_line_lem U v e = false_not_true e
end_line_lem P v e = false_not_true e
end_line_lem F v e = false_not_true e
end_line_lem T v e = false_not_true e
end_line_lem D v e = false_not_true e
end_line_lem E v e = refl

module _ (s : List ℕ) (after : Hour) where
  fed_end : (h : Hour) (at next : ℕ) (l : Line) → line_at s at ≡ got l next → is_end l.letter ≡ true → next ≡ length s → finished h ≡ accepted after
      → Fed s h at after
  unfolding reading.feed writing.texts writing.all_labelled lines.ranged
  fed_end h at next l e i n d =
      let k : l ≡ end_line = end_line_lem l.letter l.fields i in
      let st = line_stood end_line s at next (e ∙ ap (λ (l : Line). got l next) k) in
      let same = (finished_passed h after d).same in
      record {
        ls = [];
        fed = ap accepted same;
        done = ap finished (sym same) ∙ d;
        labels = refl;
        text = st.text refl ∙ ap (line_text end_line) (ap (λ (n : ℕ). drop n s) n ∙ drop-length s);
      }

  fed_more : (h m : Hour) (at next : ℕ) (l : Line) → line_at s at ≡ got l next → taken h l ≡ accepted m → Fed s m next after → Fed s h at after
  unfolding reading.feed writing.texts writing.all_labelled
  fed_more h m at next l e t f =
      let st = line_stood l s at next e in
      record {
        ls = l ∷ f.ls;
        fed = rw t f.fed;
        done = f.done;
        labels = rw st.labels f.labels;
        text = st.text (taken_passed h l m t).within ∙ ap (line_text l) f.text;
      }

  lines_fed : (f : ℕ) (h : Hour) (at : ℕ) → lines_from f s h at ≡ accepted after → Fed s h at after
  unfolding reading.lines_from
  lines_fed zero h at e = refused_not_accepted _ after e
  lines_fed (suc f) h at e =
      let a = line_passed (line_at s at) (Form (line_number h)) (turn s h (lines_from f s)) after e in
      go a.line_read a.next a.is (is_end a.line_read.letter) refl a.goes (lines_fed f)
    where
      last : (l : Line) (next : ℕ) → line_at s at ≡ got l next → is_end l.letter ≡ true → (b : Bool) → eqb next (length s) ≡ b
          → (when b then finished h else refused (Form (line_number h + 1))) ≡ accepted after → Fed s h at after
      last l next le i true be e = fed_end h at next l le i (eqb-true next (length s) be) e
      last l next le i false be e = refused_not_accepted _ after e

      go : (l : Line) (next : ℕ) → line_at s at ≡ got l next → (b : Bool) → is_end l.letter ≡ b
          → (when b then (when eqb next (length s) then finished h else refused (Form (line_number h + 1))) else and_then (taken h l) λ m. lines_from f s m next) ≡ accepted after
          → ((h : Hour) (at : ℕ) → lines_from f s h at ≡ accepted after → Fed s h at after) → Fed s h at after
      go l next le true i e ih = last l next le i (eqb next (length s)) refl e
      go l next le false i e ih =
          let a = then_passed (taken h l) (λ m. lines_from f s m next) after e in
          fed_more h a.mid at next l le a.first (ih a.mid next a.second)

-- The whole deck.

pub record Stands (s : List ℕ) (h : Hour) : Type 0 where
  pub text : s ≡ deck_text h
  pub own : OwnLines h

module _ (s : List ℕ) (h : Hour) where
  deck_stands : (l : Line) (start : Hour) (next : ℕ) → line_at s 0 ≡ got l next → headed l ≡ accepted start → Fed s start next h → Stands s h
  unfolding writing.deck_text
  deck_stands l start next le he f =
      let hd = headed_passed l start he in
      let g = fed_grown f.ls start h (subst Entries hd.starts (started_entries start.losses)) f.fed in
      let b : body h ≡ f.ls = g.lines ∙ ap (λ x. x ++ f.ls) (ap body (sym hd.starts) ∙ started_body start.losses) in
      let i : l ≡ head_line h = hd.is ∙ ap (λ (n : ℕ). line H (n, tt)) (sym g.losses) in
      let z : start ≡ started h.losses = sym hd.starts ∙ ap started (sym g.losses) in
      let st = line_stood l s 0 next le in
      record {
        text = st.text hd.within ∙ ap (line_text l) f.text ∙ ap (λ x. line_text x (texts f.ls (line_text end_line []))) i ∙ ap (λ x. line_text (head_line h) (texts x (line_text end_line []))) (sym b);
        own = record {
          head = ap headed (sym i) ∙ he ∙ ap accepted z;
          fed = ap (λ (m : Hour). feed m (body h)) (sym z) ∙ ap (feed start) b ∙ f.fed;
          done = f.done;
          labels = ap all_labelled b ∙ f.labels;
        };
      }

  pub reading_stands : reading.reading s ≡ accepted h → Stands s h
  unfolding reading.reading
  reading_stands e =
      let short = refuse_passed (ltb 8192 (length s)) TooLong _ h e in
      let a = line_passed (line_at s 0) (Form 1) _ h short.1 in
      let b = then_passed (headed a.line_read) _ h a.goes in
      deck_stands a.line_read b.mid a.next a.is b.first (lines_fed s h (length s) b.mid a.next b.second)
