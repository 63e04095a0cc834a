-- A written label is read back, and a label that is read was written.
--     label_stood     where a label is read, it is one and stands so
use Rattle.std.specs.Prelude.{◌≡◌, Bool, ℕ, suc, ◌≤◌, get_or}
use Rattle.std.proofs.Math.Path.{refl, ap, subst}
use Rattle.std.proofs.Common.{sym, ◌∙◌, add-one, eqb-true}
use Rattle.std.proofs.Math.Bool.{true, false}
use mathlib.Core.List.{List, [], ◌∷◌}
use native.Mathlib.Omega.{arith}
use Rattle.std.proofs.Math.Dec.{eqb}
use Rattle.std.proofs.Math.ListN.{length, drop, length-drop}
use Rattle.rules.specs.Words.{when◌then◌else◌}
use Rattle.rules.specs.Fields as fields
use Rattle.rules.specs.Fields.{got, is_character, Chars, all_characters, is_label}
use Rattle.rules.specs.Spreadsheet as spreadsheet
use Rattle.rules.specs.Spreadsheet.{doubled, label_field, text_at, pushed, quoted, label_at}
use Rattle.laws.specs.Choices.{malformed_not_got, got_passed, field_passed}
use Rattle.laws.specs.Lists.{drop_past_one}
use Rattle.file_roundtrip.specs.Standing.{Standing, standing_then, pushed_passed, text_stood}

-- no quote stands first
abbrev pub Unquoted : List ℕ → Type 0
Unquoted l = eqb (get_or l 0 0) 34 ≡ false

pub drop_suc : (s l : List ℕ) (i b : ℕ) → drop i s ≡ b ∷ l → drop (suc i) s ≡ l
drop_suc s l i b e = rw (← (add-one i)) (drop_past_one s l i b e)

-- A written label is read.

pub closed_read : (l : List ℕ) (i : ℕ) → Unquoted l → quoted true i l ≡ got [] i
unfolding spreadsheet.quoted
closed_read [] i u = refl
closed_read (b ∷ t) i u = rw u

-- A label that is read was written.

-- the bytes with the quote that was just passed
abbrev lead : Bool → List ℕ → List ℕ
lead true l = 34 ∷ l
lead false l = l

record Closed (s : List ℕ) (q : Bool) (l : List ℕ) (i : ℕ) (cs : Chars) (next : ℕ) : Type 0 where
  text : lead q l ≡ doubled cs (34 ∷ drop next s)
  all : all_characters cs ≡ true
  later : i ≤ next
  within : i ≤ length s → next ≤ length s

module _ (s : List ℕ) where
  -- the quote that was just passed closes the label
  quote_closes : (l : List ℕ) (i : ℕ) (cs : Chars) (next : ℕ) → drop i s ≡ l → got [] i ≡ got cs next → Closed s true l i cs next
  unfolding spreadsheet.doubled fields.all_characters
  quote_closes l i cs next e g =
      let k : i ≡ next = cc in
      let c : [] ≡ cs = cc in
      subst (λ (cs : Chars). Closed s true l i cs next) c
      (record { text = ap (λ (t : List ℕ). 34 ∷ t) (sym e ∙ ap (λ (n : ℕ). drop n s) k); all = refl; later = omega arith; within = λ h. omega arith })

  -- a character; a quote is one after another one
  character_there : (q : Bool) (b : ℕ) (t : List ℕ) (i : ℕ) (cs : Chars) (next : ℕ) → eqb b 34 ≡ q → is_character b ≡ true → drop i s ≡ b ∷ t
      → Closed s false t (suc i) cs next → Closed s q (b ∷ t) i (b ∷ cs) next
  unfolding spreadsheet.doubled fields.all_characters
  character_there q b t i cs next qe k e c =
      record {
        text = rw qe (text_is q qe);
        all = rw k c.all;
        later = omega (arith, c.later);
        within = λ h. c.within (omega (arith, ap length e, length-drop i s));
      }
    where
      text_is : (q : Bool) → eqb b 34 ≡ q → lead q (b ∷ t) ≡ (when q then 34 ∷ 34 ∷ doubled cs (34 ∷ drop next s) else b ∷ doubled cs (34 ∷ drop next s))
      text_is true qe = rw (eqb-true b 34 qe, c.text)
      text_is false qe = ap (λ (l : List ℕ). b ∷ l) c.text

  quoted_stood : (l : List ℕ) (q : Bool) (i : ℕ) (cs : Chars) (next : ℕ) → drop i s ≡ l → quoted q i l ≡ got cs next → Closed s q l i cs next
  unfolding spreadsheet.quoted
  quoted_stood [] true i cs next e g = quote_closes [] i cs next e g
  quoted_stood [] false i cs next e g = malformed_not_got cs next g
  quoted_stood (b ∷ t) q i cs next e g = go q (eqb b 34) refl g (λ q cs. quoted_stood t q (suc i) cs next (drop_suc s t i b e))
    where
      more : (q : Bool) → eqb b 34 ≡ q → is_character b ≡ true → pushed b (quoted false (suc i) t) ≡ got cs next
          → ((q : Bool) (cs : Chars) → quoted q (suc i) t ≡ got cs next → Closed s q t (suc i) cs next) → Closed s q (b ∷ t) i cs next
      more q be k g ih =
          let p = pushed_passed (pushed b) b (λ t n. refl) refl (quoted false (suc i) t) cs next g in
          subst (λ (cs : Chars). Closed s q (b ∷ t) i cs next) p.whole (character_there q b t i p.tail next be k e (ih false p.tail p.is))

      -- the quote stands in the bytes, and then in front of them
      quote_passed : b ≡ 34 → Closed s true t (suc i) cs next → Closed s false (b ∷ t) i cs next
      quote_passed be c =
          record {
            text = rw be c.text;
            all = c.all;
            later = omega (arith, c.later);
            within = λ h. c.within (omega (arith, ap length e, length-drop i s));
          }

      go : (q r : Bool) → eqb b 34 ≡ r → quoted q i (b ∷ t) ≡ got cs next
          → ((q : Bool) (cs : Chars) → quoted q (suc i) t ≡ got cs next → Closed s q t (suc i) cs next) → Closed s q (b ∷ t) i cs next
      go true true be g ih = let k = eqb-true b 34 be in more true be (rw k) (rw k (rw be at g)) ih
      go true false be g ih = quote_closes (b ∷ t) i cs next e (rw be at g)
      go false true be g ih = quote_passed (eqb-true b 34 be) (ih true cs (rw be at g))
      go false false be g ih = let p = got_passed (is_character b) _ cs next (rw be at g) in more false be p.0 p.1 ih

pub label_stood : (cs s : List ℕ) (at next : ℕ) → label_at s at ≡ got cs next → (is_label cs ≡ true) × Standing s at next (label_field cs)
unfolding spreadsheet.label_at
label_stood cs s at next e =
    let p = field_passed (text_at s at (44 ∷ 34 ∷ [])) _ cs next e in
    let q = field_passed (quoted false p.place (drop p.place s)) _ cs next p.second in
    let r = got_passed (is_label q.mid) (got q.mid q.place) cs next q.second in
    let same = r.1 in
    let is : q.mid ≡ cs = cc in
    let k : q.place ≡ next = cc in
    let c = quoted_stood s (drop p.place s) false p.place cs next refl (q.first ∙ same) in (
      ap is_label (sym is) ∙ r.0,
      standing_then s at p.place next (λ rest. 44 ∷ 34 ∷ rest) (λ rest. doubled cs (34 ∷ rest))
          (text_stood (44 ∷ 34 ∷ []) s at p.place refl p.first)
          (record { text = c.text; later = c.later; within = c.within }),
    )
