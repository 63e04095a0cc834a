-- The labels of a valid hour are labels, and a label has at most 32 bytes, escapes and all.
use Rattle.std.specs.Prelude.{◌≡◌, true, List, [], ◌∷◌, ◌++◌, ℕ, zero, suc, ◌≤◌, ◌<◌, length}
use Rattle.std.proofs.Common.{ap, sym, ◌∙◌, append_assoc, arith, leb-true}
use Rattle.rules.specs.Words as words
use Rattle.rules.specs.Words.{list_to}
use Rattle.rules.specs.Fields.{escape, Chars, is_label}
use Rattle.rules.specs.Lines as lines
use Rattle.rules.specs.Lines.{Line}
use Rattle.rules.specs.Record as entries
use Rattle.rules.specs.Record.{chars, source_at, delivery_at, plant_line, source_line, delivery_line}
use Rattle.rules.specs.Writing as writing
use Rattle.rules.specs.Writing.{all_labelled, valid}
use Rattle.rules.specs.declared.Hour.{Hour}
use Rattle.rules.specs.declared.Plant.{Plant}
use Rattle.rules.specs.declared.Plant.TheVariants.{Unit as U, Purchase as P, Fixed as F}
use Rattle.laws.specs.Choices.{both_true}
use Rattle.laws.specs.Sums.{below_suc}
use Rattle.roundtrip.specs.Labels.{label_from_lem}
use Rattle.roundtrip.specs.Lines.{line_labelled}
use Rattle.roundtrip.specs.DeckFits.{escape_most}
use Rattle.roundtrip.specs.OwnLines.{valid_own}

-- each line of a valid hour has the labels that it should
each_labelled : (f : ℕ → Line) (n : ℕ) (ms : List Line) → all_labelled (list_to (λ i. f i ∷ []) n ++ ms) ≡ true
    → ((i : ℕ) → i < n → line_labelled (f i) ≡ true) × (all_labelled ms ≡ true)
unfolding words.list_to writing.all_labelled
each_labelled f zero ms e = ((λ i l. absurd (omega arith)), e)
each_labelled f (suc n) ms e =
    let a = each_labelled f n (f n ∷ ms) (ap all_labelled (sym (append_assoc (list_to (λ i. f i ∷ []) n) (f n ∷ []) ms)) ∙ e) in
    let b = both_true (line_labelled (f n)) (all_labelled ms) a.1 in
    (below_suc (λ i. line_labelled (f i) ≡ true) n a.0 b.0, b.1)

pub label_short : (cs : Chars) → is_label cs ≡ true → length (escape cs) ≤ 32
label_short cs e = omega (arith, escape_most cs, leb-true (length cs) 16 (label_from_lem cs e).few)

plant_label : (p : Plant) (cs : Chars) → line_labelled (plant_line p cs) ≡ true → is_label cs ≡ true
unfolding lines.labelled
plant_label (U u) cs e = (both_true (is_label cs) true e).0
plant_label (P g rate) cs e = (both_true (is_label cs) true e).0
plant_label (F g) cs e = (both_true (is_label cs) true e).0

pub record Labels (h : Hour) : Type 0 where
  pub sources : (i : ℕ) → i < h.nsources → is_label (chars (source_at h i).label) ≡ true
  pub deliveries : (j : ℕ) → j < h.ndeliveries → is_label (chars (delivery_at h j).label) ≡ true

pub hour_labels : (h : Hour) → valid h ≡ true → Labels h
unfolding entries.body lines.labelled
hour_labels h v =
    let s = each_labelled (λ i. source_line (source_at h i)) h.nsources _ (valid_own h v).labels in
    let d = each_labelled (λ i. delivery_line (delivery_at h i)) h.ndeliveries _ s.1 in
    record {
      sources = λ i l. plant_label (source_at h i).plant _ (s.0 i l);
      deliveries = λ j l. (both_true (is_label (chars (delivery_at h j).label)) true (d.0 j l)).0;
    }
