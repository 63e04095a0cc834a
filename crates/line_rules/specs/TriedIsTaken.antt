-- On the tables of an hour, the rules tried are the reader's rules on the hour.
--     source_tried_lem, delivery_tried_lem, direct_tried_lem     the reader takes a line just where the tables let it through
use Rattle.std.specs.Prelude.{◌≡◌, Bool, ◌&&◌, List, ℕ, ◌+◌, ◌<◌, leb, ltb, eqb, get_or, is_some, Option, Some, None}
use Rattle.std.proofs.Math.Path.{refl, ap, sym}
use Rattle.std.proofs.Common.{◌∙◌, arith}
use Rattle.std.proofs.Math.Bool.{true, false, not}
use Rattle.std.proofs.Math.Option.{Option as Maybe, none, some}
use Rattle.rules.specs.Words.{when◌then◌else◌}
use Rattle.rules.specs.Refusals.{Outcome, accepted, refused, refuse, and_then}
use Rattle.rules.specs.Units.{is_unit, levelled}
use Rattle.rules.specs.Record.{source_at, with_source, with_delivery, with_direct}
use Rattle.rules.specs.Reading.{line_number, source_taken, delivery_taken, named, basis_kept, below_high, percents_of, direct_taken}
use Rattle.rules.specs.declared.Label.{Label}
use Rattle.rules.specs.declared.Plant.{Plant}
use Rattle.rules.specs.declared.Plant.TheVariants.{Unit as U, Purchase as P, Fixed as F}
use Rattle.rules.specs.declared.Basis.{Basis}
use Rattle.rules.specs.declared.Basis.TheVariants.{Low, Generation, Mwh}
use Rattle.rules.specs.declared.Source.{Source}
use Rattle.rules.specs.declared.Delivery.{Delivery}
use Rattle.rules.specs.declared.Direct.{Direct}
use Rattle.rules.specs.declared.Hour.{Hour}
use Rattle.rules.specs.declared.Refusal.{Refusal}
use Rattle.rules.specs.declared.Refusal.TheVariants.{Range, Full, Used, Names, OtherBasis, Percents}
use Rattle.laws.specs.Choices.{false_not_true}
use Rattle.laws.specs.Lists.{find_to_passes}
use Rattle.line_rules.specs.Spellings.{spelling_of, spot_of, spelling_to, spelling_found}
use Rattle.line_rules.specs.Tried as tried
use Rattle.line_rules.specs.Tried.{counts_of, label_tried, source_tried, delivery_tried, Tables, below_most, code_leaves, on_spot, on_pair, direct_tried}
use Rattle.line_rules.specs.Finds.{kept}
use Rattle.line_rules.specs.SpellingTells.{Labelled}
use Rattle.line_rules.specs.Kept.{spelled_found, spelled_used, spelled_both, High, Kept}
use Rattle.line_rules.specs.declared.Spelling.{Spelling}
use Rattle.line_rules.specs.declared.DirectLine.{DirectLine}

-- one rule past, on the hour and on its tables
past : {A B : Type 0} (b c : Bool) (r : Refusal) (x : Outcome B) (y : Outcome A) (after : A → Outcome B) → b ≡ c → x ≡ and_then y after
    → refuse b r x ≡ and_then (refuse c r y) after
past b true r x y after e f = rw e
past b false r x y after e f = rw e f

then_then : {A B : Type 0} (o : Outcome (Unit {0})) (y : Outcome A) (after : A → Outcome B) → and_then (and_then o (λ u. y)) after ≡ and_then o (λ u. and_then y after)
then_then (accepted u) y after = refl
then_then (refused r) y after = refl

-- 3 to 5
label_past : {B : Type 0} (line : ℕ) (in_range : Bool) (n : ℕ) (spelling : Spelling) (lo hi : List ℕ) (used : Bool) (x : Outcome B) → used ≡ is_some (spelling_found lo hi n spelling)
    → refuse (not in_range) (Range line) (refuse (leb 32 n) (Full line) (refuse used (Used line) x)) ≡ and_then (label_tried line in_range n spelling lo hi) (λ u. x)
unfolding tried.label_tried
label_past line in_range n spelling lo hi used x e =
    past (not in_range) _ _ _ _ _ refl (past (leb 32 n) _ _ _ _ _ refl (past used _ _ _ (accepted tt) (λ u. x) e refl))

module _ (h : Hour) (t : Tables) (k : Kept h t) where
  -- Source and T lines.

  pub source_tried_lem : (in_range : Bool) (x : Source) (plant : Plant) → Labelled x.label → (in_range ≡ true → plant ≡ x.plant)
      → source_taken h in_range x ≡ and_then (source_tried (counts_of h) in_range plant (spelling_of x.label) t.slo t.shi) (λ u. accepted (with_source h x))
  unfolding tried.source_tried tried.label_tried
  source_tried_lem false x plant p q = past (not (eqb (h.ndeliveries + h.ndirects) 0)) _ _ _ (refused (Range (line_number h))) _ refl refl
  source_tried_lem true x plant p q =
      past (not (eqb (h.ndeliveries + h.ndirects) 0)) _ _ _ _ _ refl
      (label_past (line_number h) true h.nsources (spelling_of x.label) t.slo t.shi _ _ (spelled_used _ _ t.slo t.shi k.sources x.label p)
      ∙ ap (λ (y : Outcome Hour). and_then (label_tried (line_number h) true h.nsources (spelling_of x.label) t.slo t.shi) (λ u. y))
      (past (not (levelled x.plant)) (not (levelled plant)) _ _ (accepted tt) (λ u. accepted (with_source h x)) (ap (λ (p : Plant). not (levelled p)) (sym (q refl))) refl)
      ∙ sym (then_then (label_tried (line_number h) true h.nsources (spelling_of x.label) t.slo t.shi) _ (λ u. accepted (with_source h x))))

  pub delivery_tried_lem : (in_range : Bool) (x : Delivery) → Labelled x.label
      → delivery_taken h in_range x ≡ and_then (delivery_tried (counts_of h) in_range (spelling_of x.label) t.tlo t.thi) (λ u. accepted (with_delivery h x))
  unfolding tried.delivery_tried
  delivery_tried_lem in_range x p =
      past (not (eqb h.ndirects 0)) _ _ _ _ _ refl
      (label_past (line_number h) in_range h.ndeliveries (spelling_of x.label) t.tlo t.thi _ _ (spelled_used _ _ t.tlo t.thi k.deliveries x.label p))

  -- D lines.

  below_same : (b : Basis) (p : Plant) (v : ℕ) → High p v → is_unit p ≡ true → below_high b p ≡ below_most b v
  below_same Low p v e u = refl
  below_same Generation p v e u = refl
  below_same (Mwh w) (U x) v e u = ap (ltb w) (sym e.is)
  below_same (Mwh w) (P g rate) v e u = false_not_true u
  below_same (Mwh w) (F g) v e u = false_not_true u

  -- 8 and 9 for a unit
  share_tried : (b : Basis) (percent i j : ℕ) → i < h.nsources → is_unit (source_at h i).plant ≡ true
      → refuse (not (basis_kept h i b && below_high b (source_at h i).plant)) (OtherBasis (line_number h))
      (refuse (ltb 100 (percents_of h i + percent)) (Percents (line_number h)) (accepted (with_direct h (record { basis = b; percent = percent; source = i; delivery = j }))))
      ≡ and_then
      (refuse (not (code_leaves (get_or t.based i 0) b && below_most b (get_or t.high i 0))) (OtherBasis (line_number h))
      (refuse (ltb 100 (get_or t.percents i 0 + percent)) (Percents (line_number h)) (accepted (record { basis = b; percent = percent; source = i; delivery = j }))))
      (λ y. accepted (with_direct h y))
  share_tried b percent i j l u =
      let few = k.few.sources in
      let c = k.based i (omega arith) b in
      let d = below_same b (source_at h i).plant (get_or t.high i 0) (k.high i l) u in
      past _ _ _ _ _ _ (ap (λ (x : Bool). not (x && below_high b (source_at h i).plant)) c ∙ ap (λ (x : Bool). not (code_leaves (get_or t.based i 0) b && x)) d)
      (past _ _ _ _ _ _ (ap (λ (n : ℕ). ltb 100 (n + percent)) (k.percents i (omega arith))) refl)

  -- 7: the delivery, and before it the unit
  delivery_named_lem : (i : ℕ) (x o : Maybe ℕ) → x ≡ o → (after : ℕ → Outcome Hour) (tried : ℕ → ℕ → Outcome Direct)
      → ((j : ℕ) → after j ≡ and_then (tried i j) (λ y. accepted (with_direct h y)))
      → named x (Names (line_number h)) after ≡ and_then (on_pair (on_spot (spot_of o) (λ j. Some (i, j))) (Names (line_number h)) tried) (λ y. accepted (with_direct h y))
  delivery_named_lem i x none e after tried f = rw e
  delivery_named_lem i x (some j) e after tried f = rw e (f j)

  unit_named_lem : (x o : Maybe ℕ) → x ≡ kept (λ i. is_unit (source_at h i).plant) o → ((i : ℕ) → o ≡ some i → i < h.nsources)
      → (after : ℕ → Outcome Hour) (found : ℕ → Option (ℕ × ℕ)) (tried : ℕ → ℕ → Outcome Direct)
      → ((i : ℕ) → i < h.nsources → is_unit (source_at h i).plant ≡ true
      → after i ≡ and_then (on_pair (found i) (Names (line_number h)) tried) (λ y. accepted (with_direct h y)))
      → named x (Names (line_number h)) after
      ≡ and_then (on_pair (on_spot (spot_of o) (λ i. when eqb (get_or t.high i 0) 0 then None else found i)) (Names (line_number h)) tried) (λ y. accepted (with_direct h y))
  unit_named_lem x none e l after found tried f = rw e
  unit_named_lem x (some i) e l after found tried f = go (eqb (get_or t.high i 0) 0) refl
    where
      unit : is_unit (source_at h i).plant ≡ not (eqb (get_or t.high i 0) 0)
      unit = (k.high i (l i refl)).unit

      go : (z : Bool) → eqb (get_or t.high i 0) 0 ≡ z
          → named x (Names (line_number h)) after
          ≡ and_then (on_pair (when eqb (get_or t.high i 0) 0 then None else found i) (Names (line_number h)) tried) (λ y. accepted (with_direct h y))
      go true z = rw (e, unit, z)
      go false z = rw (e, unit, z) (f i (l i refl) (unit ∙ ap not z))

  pub direct_tried_lem : (in_range : Bool) (b : Basis) (percent : ℕ) (unit delivery : Label) (x : DirectLine) → Labelled unit → Labelled delivery
      → x.unit ≡ spelling_of unit → x.delivery ≡ spelling_of delivery → (in_range ≡ true → (x.basis ≡ b) × (x.percent ≡ percent))
      → direct_taken h in_range b percent unit delivery ≡ and_then (direct_tried (counts_of h) in_range x t) (λ y. accepted (with_direct h y))
  unfolding tried.direct_tried tried.pair_found
  direct_tried_lem false b percent unit delivery x p q ue de s = refl
  direct_tried_lem true b percent unit delivery x p q ue de s =
      rw (ue, de, (s refl).0, (s refl).1)
      (past (leb 32 h.ndirects) _ _ _ _ _ refl
      (unit_named_lem _ (spelling_to t.slo t.shi (spelling_of unit) h.nsources) (spelled_both _ _ t.slo t.shi k.sources unit p (λ i. is_unit (source_at h i).plant))
      (λ i e. (find_to_passes _ h.nsources i e).0) _ _ _
      (λ i l u.
      delivery_named_lem i _ (spelling_to t.tlo t.thi (spelling_of delivery) h.ndeliveries) (spelled_found _ _ t.tlo t.thi k.deliveries delivery q) _ _
      (λ j. share_tried b percent i j l u))))
