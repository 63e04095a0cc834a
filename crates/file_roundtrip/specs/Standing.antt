-- What stands at a place is read, what is read stands there, and one after the other.
--     reads_then        what is read after another, where both stand
--     standing_then     what stands after another
--     text_behind       the place after a text that stands
--     standing_some     a text that has bytes stands before the end
--     pushed_passed     what is got with an element in front was got without it
--     text_read         where bytes stand that must stand there, they are read
--     text_stood        where such bytes, none of them 0, are read, they stand
use Rattle.std.specs.Prelude.{◌≡◌, refl, Bool, true, ◌&&◌, List, [], ◌∷◌, ◌++◌, ℕ, ◌+◌, ◌-◌, ◌<◌, ◌≤◌, leb, length, drop}
use Rattle.std.proofs.Common.{ap, sym, ◌∙◌, arith, length-append, length-drop, leb-true}
use Rattle.rules.specs.Fields.{Field, got, malformed, on_field, byte_at}
use Rattle.rules.specs.Spreadsheet as spreadsheet
use Rattle.rules.specs.Spreadsheet.{text_at}
use Rattle.laws.specs.Choices.{both_true, malformed_not_got, field_passed}
use Rattle.laws.specs.Lists.{drop_past_one}
use Rattle.roundtrip.specs.Fields.{byte_read, byte_stood}

-- reading x gives a, and behind it stands the rest
pub record Reads {A : Type 0} (s : List ℕ) (x : Field A) (a : A) (rest : List ℕ) : Type 0 where
  pub next : ℕ
  pub is : x ≡ got a next
  pub past : drop next s ≡ rest

pub reads_then : {A B : Type 0} (s : List ℕ) (x : Field A) (after : A → ℕ → Field B) (a : A) (b : B) (w rest : List ℕ) → Reads s x a w
    → ((p : ℕ) → drop p s ≡ w → Reads s (after a p) b rest) → Reads s (on_field x after) b rest
reads_then s x after a b w rest r go =
    let g = go r.next r.past in
    record { next = g.next; is = rw r.is g.is; past = g.past }

-- a text, followed by what stands at the next place, stands from a place on
pub record Standing (s : List ℕ) (at next : ℕ) (t : List ℕ → List ℕ) : Type 0 where
  pub text : drop at s ≡ t (drop next s)
  pub later : at ≤ next
  pub within : at ≤ length s → next ≤ length s

pub standing_then : (s : List ℕ) (at p next : ℕ) (t u : List ℕ → List ℕ) → Standing s at p t → Standing s p next u → Standing s at next (λ rest. t (u rest))
standing_then s at p next t u a b =
    record { text = a.text ∙ ap t b.text; later = omega (arith, a.later, b.later); within = λ h. b.within (a.within h) }

pub text_behind : (s w : List ℕ) (at next : ℕ) → drop at s ≡ w ++ drop next s → at ≤ next → next ≤ length s → next ≡ at + length w
text_behind s w at next e later within = omega (arith, ap length e, length-append w (drop next s), length-drop at s, length-drop next s)

pub standing_some : (s w : List ℕ) (at next : ℕ) → 1 ≤ length w → Standing s at next (λ rest. w ++ rest) → (at < next) × (at < length s)
standing_some s w at next h t =
    let k : length s - at ≡ length w + (length s - next) = sym (length-drop at s) ∙ ap length t.text ∙ length-append w (drop next s) ∙ ap (λ (n : ℕ). length w + n) (length-drop next s) in
    (omega (arith, t.later), omega arith)

-- An element in front of a list that is read.

module _ {A : Type 0} (push : Field (List A) → Field (List A)) (a : A) (on_got_lem : (t : List A) (n : ℕ) → push (got t n) ≡ got (a ∷ t) n) (on_malformed : push malformed ≡ malformed) where
  pub record Pushed (x : Field (List A)) (l : List A) (next : ℕ) : Type 0 where
    pub tail : List A
    pub is : x ≡ got tail next
    pub whole : a ∷ tail ≡ l

  pub pushed_passed : (x : Field (List A)) (l : List A) (next : ℕ) → push x ≡ got l next → Pushed x l next
  pushed_passed (got t n) l next e =
      let same = sym (on_got_lem t n) ∙ e in
      let k : n ≡ next = cc in
      let w : a ∷ t ≡ l = cc in
      record { tail = t; is = ap (got t) k; whole = w }
  pushed_passed malformed l next e = malformed_not_got l next (sym on_malformed ∙ e)

-- Bytes that must stand there.

abbrev pub no_zero : List ℕ → Bool
no_zero [] = true
no_zero (b ∷ t) = leb 1 b && no_zero t

pub text_read : (t s rest : List ℕ) (at : ℕ) → drop at s ≡ t ++ rest → Reads s (text_at s at t) tt rest
unfolding spreadsheet.text_at
text_read [] s rest at e = record { next = at; is = refl; past = e }
text_read (b ∷ t) s rest at e =
    let r = text_read t s rest (at + 1) (drop_past_one s (t ++ rest) at b e) in
    record { next = r.next; is = rw (byte_read s (t ++ rest) at b e) r.is; past = r.past }

pub text_stood : (t s : List ℕ) (at next : ℕ) → no_zero t ≡ true → text_at s at t ≡ got tt next → Standing s at next (λ rest. t ++ rest)
unfolding spreadsheet.text_at
text_stood [] s at next z e = let k : at ≡ next = cc in record { text = ap (λ (n : ℕ). drop n s) k; later = omega arith; within = λ h. omega arith }
text_stood (b ∷ t) s at next z e =
    let n = both_true (leb 1 b) (no_zero t) z in
    let p = field_passed (byte_at s at b) (λ u p. text_at s p t) tt next e in
    let q = byte_stood s at b p.place (leb-true 1 b n.0) p.first in
    standing_then s at p.place next (λ rest. b ∷ rest) (λ rest. t ++ rest)
    (record { text = q.0; later = omega (arith, q.1); within = λ h. q.2 })
    (text_stood t s p.place next n.1 p.second)
