-- Where a line is read, the bytes of each of its labels are its characters, escaped.
use Rattle.std.specs.Prelude.{◌≡◌, refl, false, ℕ, ◌+◌, ◌-◌, length, take, drop}
use Rattle.std.proofs.Math.Path.{ap}
use Rattle.std.proofs.Common.{sym, ◌∙◌, arith}
use mathlib.Core.List.{List, [], ◌∷◌, ◌++◌}
use Rattle.std.proofs.Math.Option.{Option, none, some}
use Rattle.std.proofs.Math.Seq.{take-append_seam}
use Rattle.rules.specs.Fields as fields
use Rattle.rules.specs.Fields.{got, on_field, byte_at, escape, unescape, label_end, Place, bytes_at, chars_at, label_from, spaced_number, spaced_label, spaced_basis}
use Rattle.rules.specs.Lines as lines
use Rattle.rules.specs.Lines.{Kind, number, basis, label, Letter, Fields, fields_of, fields_at, places_at}
use Rattle.laws.specs.Choices.{malformed_not_got, field_passed}
use Rattle.laws.specs.Lists.{drop_past_one}
use Rattle.roundtrip.specs.Fields.{more_stood}
use Rattle.roundtrip.specs.Labels.{label_stood, unescape_escape}

abbrev pub Escaped : List ℕ → Place → Type 0
Escaped s p = escape (chars_at s p) ≡ bytes_at s p

-- what stands between the quotes
bytes_between : (s cs rest : List ℕ) (d : ℕ) → drop d s ≡ 34 ∷ cs ++ (34 ∷ rest) → bytes_at s (record { from = d + 1; upto = d + (1 + length cs) }) ≡ cs
bytes_between s cs rest d e =
    let k : d + (1 + length cs) - (d + 1) ≡ length cs = omega arith in
    ap (λ (n : ℕ). take n (drop (d + 1) s)) k ∙ ap (take (length cs)) (drop_past_one s (cs ++ (34 ∷ rest)) d 34 e) ∙ take-append_seam cs (34 ∷ rest)

label_escaped : (s : List ℕ) (at : ℕ) (p : Place) (n : ℕ) → spaced_label s at ≡ got p n → Escaped s p
unfolding fields.spaced_label
label_escaped s at p n e =
    let q = field_passed (byte_at s at 32) (λ u d. label_from d (label_end (drop d s))) p n e in
    go q.place (label_end (drop q.place s)) refl q.second
  where
    go : (d : ℕ) (x : Option ℕ) → label_end (drop d s) ≡ x → label_from d x ≡ got p n → Escaped s p
    go d none xe e = malformed_not_got p n e
    go d (some z) xe e =
        let q = label_stood (drop d s) z xe in
        let at : record { from = d + 1; upto = d + z } ≡ p = cc in
        let b : bytes_at s p ≡ escape q.cs
        = ap (bytes_at s) (sym at) ∙ ap (λ (k : ℕ). bytes_at s (record { from = d + 1; upto = d + k })) q.place ∙ bytes_between s (escape q.cs) q.rest d q.text in
        ap escape (ap (unescape false) b ∙ unescape_escape q.cs) ∙ sym b

abbrev pub LabelsEscaped : List ℕ → (ks : List Kind) → Fields Place ks → Type 0
LabelsEscaped s [] v = Unit {0}
LabelsEscaped s (number x ∷ ks) v = LabelsEscaped s ks v.1
LabelsEscaped s (basis x ∷ ks) v = LabelsEscaped s ks v.1
LabelsEscaped s (label ∷ ks) v = Escaped s v.0 × LabelsEscaped s ks v.1

module _ (s : List ℕ) where
  fields_escaped : (ks : List Kind) (at : ℕ) (v : Fields Place ks) (n : ℕ) → fields_at ks s at ≡ got v n → LabelsEscaped s ks v
  unfolding lines.fields_at
  fields_escaped [] at v n e = tt
  fields_escaped (number x ∷ ks) at v n e =
      let p = more_stood spaced_number (fields_at ks s) s at v n e in fields_escaped ks p.place v.1 n p.second
  fields_escaped (basis x ∷ ks) at v n e =
      let p = more_stood spaced_basis (fields_at ks s) s at v n e in fields_escaped ks p.place v.1 n p.second
  fields_escaped (label ∷ ks) at v n e =
      let p = more_stood spaced_label (fields_at ks s) s at v n e in (label_escaped s at v.0 p.place p.first, fields_escaped ks p.place v.1 n p.second)

  pub line_escaped : (l : Letter) (at : ℕ) (v : Fields Place (fields_of l)) (next : ℕ) → places_at s at l ≡ got v next → LabelsEscaped s (fields_of l) v
  unfolding lines.places_at
  line_escaped l at v next e =
      let p = field_passed (fields_at (fields_of l) s at) (λ v p. on_field (byte_at s p 10) λ u next. got v next) v next e in
      let q = field_passed (byte_at s p.place 10) (λ u next. got p.mid next) v next p.second in
      let same = q.second in
      let is : p.mid ≡ v = cc in
      fields_escaped (fields_of l) at v p.place (p.first ∙ ap (λ (v : Fields Place (fields_of l)). got v p.place) is)
