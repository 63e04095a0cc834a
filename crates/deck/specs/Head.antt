-- The first line, and 1 before it: what reading a deck comes to by them.
use Rattle.std.proofs.Math.Path.{◌≡◌, refl, ap, sym}
use Rattle.std.proofs.Common.{◌∙◌, subst, lt-ltb, le-ltb, eqb-true}
use Rattle.std.proofs.lemmas.Option.{same_Some}
use Rattle.std.specs.Prelude.{Bool, not, List, ℕ, ◌+◌, ◌<◌, ◌≤◌, ltb, length, Result, Ok, Err, Some, None}
use Rattle.std.proofs.Math.Bool.{true, false}
use Rattle.std.proofs.Math.Option.{Option, none, some}
use Rattle.std.proofs.Math.Dec.{eqb}
use Rattle.rules.specs.Words.{when◌then◌else◌}
use Rattle.rules.specs.Refusals.{Outcome, accepted, refused, refuse, and_then}
use Rattle.rules.specs.Fields as fields
use Rattle.rules.specs.Fields.{Field, got, malformed, on_field, byte, byte_at, Chars}
use Rattle.rules.specs.Lines as lines
use Rattle.rules.specs.Lines.{Letter, H, U, P, F, T, D, E, Fields, fields_of, seen, ranged, letter_of, Line, line, places_at, line_from, line_at}
use Rattle.rules.specs.Places as places
use Rattle.rules.specs.Record.{started}
use Rattle.rules.specs.Reading as reading_of
use Rattle.rules.specs.Reading.{headed, headed_as, on_line, lines_from, reading}
use Rattle.rules.specs.declared.Refusal.{Refusal}
use Rattle.rules.specs.declared.Refusal.TheVariants.{TooLong, Form, Range}
use Rattle.rules.specs.declared.Hour.{Hour}
use Rattle.roundtrip.specs.LabelsStart.{next_starts}
use Rattle.roundtrip.specs.Taken.{headed_passed}
use Rattle.read_fields.specs.Answers.{cut, step_of}
use Rattle.read_lines.specs.Answers.{cut_fields, head_line}
use Rattle.read_lines.specs.Cut.{ranged_cut, cut_ranged, found, not_found}
use Rattle.read_lines.specs.declared.HeadLine.{HeadLine}
use Rattle.ranges.specs.Inside.{losses_inside}
use Rattle.ranges.specs.RangedIsInside.{losses_inside_lem}
use Rattle.deck.specs.Turns.{line_got, line_malformed}
use Rattle.deck.specs.FirstLine.{head_taken, head_lined, head_step, rows_after, Follows}

-- 1, and what comes after it.

pub too_long : (s : List ℕ) (at : ℕ) → 8192 < length s → head_step s at ≡ Err TooLong
too_long s at l = rw (lt-ltb 8192 (length s) l)

-- from the place that the first line tells, the lines after it are all the others
pub rows_after_head : (s : List ℕ) → rows_after s (head_step s 0) ≡ reading s
unfolding reading_of.headed reading_of.reading started
rows_after_head s = by_length (ltb 8192 (length s))
  where
    ranged_or_not : (z : Bool) (losses next : ℕ)
        → let o = refuse (not z) (Range 1) (accepted (started losses)) in rows_after s (head_taken o next) ≡ and_then o λ h. lines_from (length s) s h next
    ranged_or_not true losses next = refl
    ranged_or_not false losses next = refl

    by_letter : (l : Letter) (v : Fields Chars (fields_of l)) (next : ℕ)
        → rows_after s (head_taken (headed_as l v) next) ≡ and_then (headed_as l v) λ h. lines_from (length s) s h next
    by_letter H v next = ranged_or_not (ranged (fields_of H) v) v.0 next
    by_letter U v next = refl
    by_letter P v next = refl
    by_letter F v next = refl
    by_letter T v next = refl
    by_letter D v next = refl
    by_letter E v next = refl

    by_line : (x : Field Line) → rows_after s (head_lined x) ≡ on_line x (Form 1) λ l next. and_then (headed l) λ h. lines_from (length s) s h next
    by_line (got l next) = by_letter l.letter l.fields next
    by_line malformed = refl

    by_length : (z : Bool)
        → rows_after s (when z then Err TooLong else head_lined (line_at s 0))
        ≡ refuse z TooLong (on_line (line_at s 0) (Form 1) λ l next. and_then (headed l) λ h. lines_from (length s) s h next)
    by_length true = refl
    by_length false = by_line (line_at s 0)

-- and such is the place that it tells
pub head_follows : (s : List ℕ) → Follows s (head_step s 0)
unfolding places.line_start
head_follows s = by_length (ltb 8192 (length s))
  where
    by_head : (l : Line) (next : ℕ) → line_at s 0 ≡ got l next → (o : Outcome Hour) → headed l ≡ o → Follows s (head_taken o next)
    by_head l next e (accepted h) oe = next_starts l s 0 next e (headed_passed l h oe).within
    by_head l next e (refused r) oe = tt

    by_line : (x : Field Line) → line_at s 0 ≡ x → Follows s (head_lined x)
    by_line (got l next) e = by_head l next e (headed l) refl
    by_line malformed e = tt

    by_length : (z : Bool) → Follows s (when z then Err TooLong else head_lined (line_at s 0))
    by_length true = tt
    by_length false = by_line (line_at s 0) refl

-- the same of what was answered
pub reading_rows : (s : List ℕ) (x : Result HeadLine Refusal) → x ≡ head_step s 0 → rows_after s x ≡ reading s
reading_rows s x e = ap (rows_after s) e ∙ rows_after_head s

pub rows_after_told : (s : List ℕ) (x : Result HeadLine Refusal) → x ≡ head_step s 0 → rows_after s x ≡ reading s
rows_after_told s x e = reading_rows s x e

pub reading_follows : (s : List ℕ) (x : Result HeadLine Refusal) → x ≡ head_step s 0 → Follows s x
reading_follows s x e = subst (Follows s) (sym e) (head_follows s)

-- The first line, which stands at a place.

module _ (s : List ℕ) (at : ℕ) (short : length s ≤ 8192) where
  not_too_long : head_step s at ≡ head_lined (line_at s at)
  not_too_long = rw (le-ltb 8192 (length s) short)

  -- another letter, or none
  first_letter : (l : Letter) → ((w : Fields Chars (fields_of l)) → headed (line l w) ≡ refused (Form 1)) → head_lined (line_from s (at + 1) (some l)) ≡ Err (Form 1)
  first_letter l h = go (places_at s (at + 1) l)
    where
      go : (x : Field (Fields fields.Place (fields_of l))) → head_lined (on_field x λ v next. got (line l (seen (fields_of l) s v)) next) ≡ Err (Form 1)
      go (got v next) = rw (h (seen (fields_of l) s v))
      go malformed = refl

  other_letter : (x : Option Letter) → (x ≡ some H → ⊥) → head_lined (line_from s (at + 1) x) ≡ Err (Form 1)
  unfolding reading_of.headed
  other_letter none h = refl
  other_letter (some H) h = absurd (h refl)
  other_letter (some U) h = first_letter U (λ w. refl)
  other_letter (some P) h = first_letter P (λ w. refl)
  other_letter (some F) h = first_letter F (λ w. refl)
  other_letter (some T) h = first_letter T (λ w. refl)
  other_letter (some D) h = first_letter D (λ w. refl)
  other_letter (some E) h = first_letter E (λ w. refl)

  not_head : (b : ℕ) → eqb b 72 ≡ false → letter_of b ≡ some H → ⊥
  unfolding lines.letter_of
  not_head b h e = go (eqb b 85) (eqb b 80) (eqb b 70) (eqb b 84) (eqb b 68) (eqb b 69) (rw h at e)
    where
      go : (u p f t d e : Bool)
          → (when u then some U else when p then some P else when f then some F else when t then some T else when d then some D else when e then some E else none) ≡ some H → ⊥
      go true p f t d e q = cc
      go false true f t d e q = cc
      go false false true t d e q = cc
      go false false false true d e q = cc
      go false false false false true e q = cc
      go false false false false false true q = cc
      go false false false false false false q = cc

  pub no_head : step_of (byte_at s at 72) ≡ None → head_step s at ≡ Err (Form 1)
  unfolding fields.byte_at lines.line_at
  no_head e = not_too_long ∙ go (eqb (byte s at) 72) refl e
    where
      go : (z : Bool) → eqb (byte s at) 72 ≡ z → step_of (when z then got tt (at + 1) else malformed) ≡ None → head_lined (line_from s (at + 1) (letter_of (byte s at))) ≡ Err (Form 1)
      go true ze e = absurd cc
      go false ze e = other_letter (letter_of (byte s at)) (not_head (byte s at) ze)

  -- the letter H
  module _ (p : ℕ) (e : step_of (byte_at s at 72) ≡ Some p) where
    lettered : (letter_of (byte s at) ≡ some H) × (at + 1 ≡ p)
    unfolding fields.byte_at lines.letter_of
    lettered = go (eqb (byte s at) 72) refl e
      where
        go : (z : Bool) → eqb (byte s at) 72 ≡ z → step_of (when z then got tt (at + 1) else malformed) ≡ Some p → (letter_of (byte s at) ≡ some H) × (at + 1 ≡ p)
        go true ze e = (ap letter_of (eqb-true (byte s at) 72 ze), cc)
        go false ze e = absurd cc

    pub head_malformed : head_line (places_at s p H) ≡ None → head_step s at ≡ Err (Form 1)
    head_malformed k =
        let q = lettered in
        let m = not_found head_line (places_at s p H) None (λ v next e. cc) k in
        not_too_long ∙ rw (line_malformed s at H q.0 (ap (λ (n : ℕ). places_at s n H) q.1 ∙ m))

    module _ (x : HeadLine) (k : head_line (places_at s p H) ≡ Some x) where
      -- the line, and its number cut
      record HeadLined : Type 0 where
        fields : Fields fields.Place (fields_of H)
        is : line_at s at ≡ got (line H (seen (fields_of H) s fields)) x.next
        cuts : cut (fields).0 ≡ x.losses

      lined : HeadLined
      lined =
          let q = lettered in
          let f = found head_line (places_at s p H) (Some x) (λ e. cc) k in
          let same : record { losses = cut f.fields.0; next = f.next } ≡ x = same_Some _ _ f.says in
          let n : f.next ≡ x.next = ap (λ (x : HeadLine). x.next) same in
          record {
            fields = f.fields;
            is = line_got s at H q.0 f.fields x.next (ap (λ (n : ℕ). places_at s n H) q.1 ∙ f.is ∙ ap (got f.fields) n);
            cuts = ap (λ (x : HeadLine). x.losses) same;
          }

      in_range : ranged (fields_of H) (seen (fields_of H) s lined.fields) ≡ losses_inside x.losses
      unfolding lines.seen
      in_range =
          sym (ranged_cut H s lined.fields) ∙ losses_inside_lem (seen (fields_of H) s (cut_fields (fields_of H) lined.fields)) ∙ ap losses_inside lined.cuts

      pub head_outside : losses_inside x.losses ≡ false → head_step s at ≡ Err (Range 1)
      unfolding reading_of.headed
      head_outside r = not_too_long ∙ rw (lined.is, in_range ∙ r)

      pub head_started : losses_inside x.losses ≡ true → head_step s at ≡ Ok x
      unfolding reading_of.headed lines.seen started
      head_started r =
          let same : lined.fields.0 ≡ x.losses = sym (ap (λ (v : Fields fields.Place (fields_of H)). v.0) (cut_ranged H s lined.fields (in_range ∙ r))) ∙ lined.cuts in
          not_too_long ∙ rw (lined.is, in_range ∙ r, same)
