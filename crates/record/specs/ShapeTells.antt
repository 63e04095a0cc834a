-- What the tests of shape tell: a label, or a blank entry, and nothing else passes.
use Rattle.std.specs.Prelude.{◌≡◌, refl, true, ◌&&◌, List, [], ◌∷◌, ◌++◌, ℕ, zero, suc, ◌+◌, ◌-◌, ◌<◌, ◌≤◌, leb, ltb, eqb, length, get_or, replicate}
use Rattle.std.proofs.Math.Path.{ap}
use Rattle.std.proofs.Common.{sym, ◌∙◌, arith, length-append, length-take-le, get_or-take, get_or-append-add, ext_get_or}
use Rattle.std.proofs.Math.Decide.{dec_lt}
use Rattle.std.proofs.lemmas.List.{length-replicate, get_or-replicate}
use Rattle.std.proofs.Math.ListN.{get_or-append}
use borrow.Author.Tests.{leb-true, eqb-true, eq-eqb, le-leb, lt-ltb, le-ltb}
use Rattle.rules.specs.Words as words
use Rattle.rules.specs.Fields as fields
use Rattle.rules.specs.Fields.{is_character, Chars, all_characters, is_label}
use Rattle.rules.specs.Record.{chars, label_of, blank_source, blank_delivery, blank_direct}
use Rattle.rules.specs.declared.Label.{Label}
use Rattle.rules.specs.declared.Plant.{Plant}
use Rattle.rules.specs.declared.Plant.TheVariants.{Unit as U, Purchase as P, Fixed as F}
use Rattle.rules.specs.declared.Basis.{Basis}
use Rattle.rules.specs.declared.Basis.TheVariants.{Low, Generation, Mwh}
use Rattle.rules.specs.declared.Source.{Source}
use Rattle.rules.specs.declared.Delivery.{Delivery}
use Rattle.rules.specs.declared.Direct.{Direct}
use Rattle.laws.specs.Choices.{false_not_true, both_true}
use Rattle.roundtrip.specs.Labels.{label_from_lem}
use Rattle.line_rules.specs.SpellingTells.{Labelled}
use Rattle.record.specs.Shape as shape
use Rattle.record.specs.Shape.{own_byte, padded_to, padded, own_label, blank_label, blank_plant, source_blank, delivery_blank, blank_basis, direct_blank}
use Rattle.record.specs.Loops.{all_to_each, all_to_from}

-- Labels.

characters_from : (cs : Chars) → ((i : ℕ) → i < length cs → is_character (get_or cs i 0) ≡ true) → all_characters cs ≡ true
unfolding fields.all_characters
characters_from [] h = refl
characters_from (c ∷ cs) h = rw (h 0 (omega arith)) (characters_from cs (λ i l. h (suc i) (omega arith)))

character_at_lem : (cs : Chars) (i : ℕ) → all_characters cs ≡ true → i < length cs → is_character (get_or cs i 0) ≡ true
unfolding fields.all_characters
character_at_lem [] i e l = absurd (omega arith)
character_at_lem (c ∷ cs) zero e l = (both_true (is_character c) (all_characters cs) e).0
character_at_lem (c ∷ cs) (suc i) e l = character_at_lem cs i (both_true (is_character c) (all_characters cs) e).1 (omega arith)

same_label_lem : (l : Label) (n : ℕ) (bs : List ℕ) → n ≡ l.len → bs ≡ l.bytes → record { len = n; bytes = bs } ≡ l
same_label_lem l n bs p q = rw (p, q)

-- the bytes of a label with its padding: its own below its length, and zeros from there on
module _ (l : Label) (few : l.len ≤ 16) (size : length l.bytes ≡ 16) (all : padded_to l 16 ≡ true) where
  inside : (i : ℕ) → i < l.len → is_character (get_or l.bytes i 0) ≡ true
  inside i h = rw (lt-ltb i l.len h) at (all_to_each (λ i. own_byte (ltb i l.len) (get_or l.bytes i 0)) 16 all i (omega arith))

  after : (i : ℕ) → l.len ≤ i → i < 16 → get_or l.bytes i 0 ≡ 0
  after i h m = eqb-true (get_or l.bytes i 0) 0 (rw (le-ltb i l.len h) at (all_to_each (λ i. own_byte (ltb i l.len) (get_or l.bytes i 0)) 16 all i m))

  length_chars : length (chars l) ≡ l.len
  length_chars = length-take-le l.len l.bytes (omega arith)

  bytes_same : chars l ++ replicate (16 - length (chars l)) 0 ≡ l.bytes
  bytes_same =
      let n = length_chars in
      let z : List ℕ = replicate (16 - length (chars l)) 0 in
      let m : length z ≡ 16 - length (chars l) = length-replicate (16 - length (chars l)) 0 in
      ext_get_or 0 (chars l ++ z) l.bytes (omega (arith, length-append (chars l) z)) (λ i h. elim (dec_lt i l.len) [
        | yes k ↦ get_or-append (chars l) z 0 i (omega arith) ∙ get_or-take l.len l.bytes i 0 k
        | no k ↦ (
            let q : i ≡ length (chars l) + (i - length (chars l)) = omega arith in
            let w : i < 16 = omega (arith, length-append (chars l) z) in
            ap (λ (j : ℕ). get_or (chars l ++ z) j 0) q ∙ get_or-append-add (chars l) z (i - length (chars l)) 0
            ∙ get_or-replicate (16 - length (chars l)) (i - length (chars l)) 0 0 (omega arith) ∙ sym (after i (omega arith) w))
      ])

  padded_labelled : 1 ≤ l.len → Labelled l
  unfolding fields.is_label
  padded_labelled some =
      let n = length_chars in
      record {
        label = rw (le-leb 1 (length (chars l)) (omega arith), le-leb (length (chars l)) 16 (omega arith))
            (characters_from (chars l) (λ i h. ap is_character (get_or-take l.len l.bytes i 0 (omega arith)) ∙ inside i (omega arith)));
        padded = same_label_lem l _ _ n bytes_same;
      }

padded_both : (l : Label) → padded l ≡ true → (length l.bytes ≡ 16) × (padded_to l 16 ≡ true)
unfolding shape.padded
padded_both l e = let p = both_true (eqb (length l.bytes) 16) (padded_to l 16) e in (eqb-true (length l.bytes) 16 p.0, p.1)

pub own_labelled : (l : Label) → own_label l ≡ true → Labelled l
unfolding shape.own_label
own_labelled l e =
    let p = both_true (leb 1 l.len) (leb l.len 16 && padded l) e in
    let q = both_true (leb l.len 16) (padded l) p.1 in
    let r = padded_both l q.1 in
    padded_labelled l (leb-true l.len 16 q.0) r.0 r.1 (leb-true 1 l.len p.0)

label_padded : (cs : Chars) → length cs ≤ 16 → all_characters cs ≡ true → padded (label_of cs) ≡ true
unfolding shape.padded
label_padded cs few all =
    let z : List ℕ = replicate (16 - length cs) 0 in
    let m : length z ≡ 16 - length cs = length-replicate (16 - length cs) 0 in
    let size : length (cs ++ z) ≡ 16 = length-append cs z ∙ omega arith in
    rw (eq-eqb (length (cs ++ z)) 16 size)
    (all_to_from (λ i. own_byte (ltb i (length cs)) (get_or (cs ++ z) i 0)) 16 (λ i h. elim (dec_lt i (length cs)) [
      | yes k ↦ rw (lt-ltb i (length cs) k, get_or-append cs z 0 i k) (character_at_lem cs i all k)
      | no k ↦ (
          let q : i ≡ length cs + (i - length cs) = omega arith in
          let w : get_or (cs ++ z) i 0 ≡ 0 = ap (λ (j : ℕ). get_or (cs ++ z) j 0) q ∙ get_or-append-add cs z (i - length cs) 0 ∙ get_or-replicate (16 - length cs) (i - length cs) 0 0 (omega arith) in
          rw (le-ltb i (length cs) (omega arith)) (eq-eqb (get_or (cs ++ z) i 0) 0 w))
    ]))

pub labelled_own : (l : Label) → Labelled l → own_label l ≡ true
unfolding shape.own_label
labelled_own l p =
    let q = label_from_lem (chars l) p.label in
    rw (← p.padded) (rw (q.some, q.few) (label_padded (chars l) (leb-true (length (chars l)) 16 q.few) q.all))

pub blank_label_lem : (l : Label) → blank_label l ≡ true → l ≡ label_of []
unfolding shape.blank_label
blank_label_lem l e =
    let p = both_true (eqb l.len 0) (padded l) e in
    let n = eqb-true l.len 0 p.0 in
    let r = padded_both l p.1 in
    sym (same_label_lem l 0 (replicate 16 0) (sym n)
    (ext_get_or 0 (replicate 16 0) l.bytes (sym r.0) (λ i h. get_or-replicate 16 i 0 0 h ∙ sym (after l (omega arith) r.0 r.1 i (omega arith) h))))

-- Blank entries.

blank_plant_lem : (p : Plant) → blank_plant p ≡ true → p ≡ F 0
blank_plant_lem (U u) e = false_not_true e
blank_plant_lem (P g rate) e = false_not_true e
blank_plant_lem (F g) e = ap F (eqb-true g 0 e)

pub blank_source_lem : (x : Source) → source_blank x ≡ true → x ≡ blank_source
unfolding shape.source_blank
blank_source_lem x e =
    let p = both_true (blank_plant x.plant) (blank_label x.label) e in
    rw (← (blank_plant_lem x.plant p.0), ← (blank_label_lem x.label p.1))

same_delivery : (s k b m : ℕ) (l : Label) → s ≡ 0 → k ≡ 0 → b ≡ 0 → m ≡ 0 → l ≡ label_of []
    → record { sequence = record { 0 = s }; kind = k; block = b; mwh = m; label = l } ≡ blank_delivery
same_delivery s k b m l e f g h i = rw (e, f, g, h, i)

pub blank_delivery_lem : (x : Delivery) → delivery_blank x ≡ true → x ≡ blank_delivery
unfolding shape.delivery_blank
blank_delivery_lem x e =
    let a = both_true (eqb x.sequence.0 0) _ e in
    let b = both_true (eqb x.kind 0) _ a.1 in
    let c = both_true (eqb x.block 0) _ b.1 in
    let d = both_true (eqb x.mwh 0) (blank_label x.label) c.1 in
    same_delivery x.sequence.0 x.kind x.block x.mwh x.label (eqb-true x.sequence.0 0 a.0) (eqb-true x.kind 0 b.0) (eqb-true x.block 0 c.0)
    (eqb-true x.mwh 0 d.0) (blank_label_lem x.label d.1)

blank_basis_lem : (b : Basis) → blank_basis b ≡ true → b ≡ Low
blank_basis_lem Low e = refl
blank_basis_lem Generation e = false_not_true e
blank_basis_lem (Mwh v) e = false_not_true e

same_direct : (b : Basis) (p s d : ℕ) → b ≡ Low → p ≡ 0 → s ≡ 0 → d ≡ 0 → record { basis = b; percent = p; source = s; delivery = d } ≡ blank_direct
same_direct b p s d e f g h = rw (e, f, g, h)

pub blank_direct_lem : (x : Direct) → direct_blank x ≡ true → x ≡ blank_direct
unfolding shape.direct_blank
blank_direct_lem x e =
    let a = both_true (blank_basis x.basis) _ e in
    let b = both_true (eqb x.percent 0) _ a.1 in
    let c = both_true (eqb x.source 0) (eqb x.delivery 0) b.1 in
    same_direct x.basis x.percent x.source x.delivery (blank_basis_lem x.basis a.0) (eqb-true x.percent 0 b.0) (eqb-true x.source 0 c.0) (eqb-true x.delivery 0 c.1)

pub blanks_blank : (source_blank blank_source ≡ true) × (delivery_blank blank_delivery ≡ true) × (direct_blank blank_direct ≡ true)
unfolding shape.source_blank shape.delivery_blank shape.direct_blank shape.blank_label shape.padded words.all_to
blanks_blank = (refl, refl, refl)
