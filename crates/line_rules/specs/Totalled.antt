-- What 10 and 11 ask of an hour so far, kept as it grows, and what they come to at its end.
--     totalled_none, totalled_source, totalled_delivery    no entry, and one more
--     finished_by_lem                                           the verdict on the whole hour
use Rattle.std.specs.Prelude.{Result, Ok, Err, is_some, ◌≡◌, refl, Bool, true, false, not, ◌||◌, List, ℕ, zero, suc, ◌+◌, ◌*◌, ◌<◌, ◌≤◌, ltb, eqb, get_or}
use Rattle.std.proofs.Common.{ap, sym, ◌∙◌, add-one, arith, eqb-true}
use Rattle.std.proofs.Math.Option.{Option, none, some}
use Rattle.std.proofs.lemmas.Bool.{eqb-false}
use Rattle.rules.specs.Words as words
use Rattle.rules.specs.Words.{when◌then◌else◌, any_to}
use Rattle.rules.specs.Answers.{verdict_of}
use Rattle.rules.specs.Units.{generation}
use Rattle.rules.specs.Sequences.{no_delivery, to_place}
use Rattle.rules.specs.Record.{no_source}
use Rattle.rules.specs.Reading.{generated, delivered, finished}
use Rattle.rules.specs.declared.Plant.{Plant}
use Rattle.rules.specs.declared.Source.{Source}
use Rattle.rules.specs.declared.Delivery.{Delivery}
use Rattle.rules.specs.declared.Hour.{Hour}
use Rattle.rules.specs.declared.Refusal.{Refusal}
use Rattle.rules.specs.declared.Refusal.TheVariants.{Overdrawn, Unplaced}
use Rattle.laws.specs.Choices.{true_not_false, false_not_true}
use Rattle.laws.specs.Sums.{sum_to_none, sum_to_more, sum_to_same}
use Rattle.roundtrip.specs.FirstUnplaced.{placer}
use Rattle.line_rules.specs.Spellings.{spot_of}
use Rattle.line_rules.specs.Tried.{counts_of, above_one, generated_to, delivered_to}
use Rattle.line_rules.specs.Finds.{found_any}
use Rattle.line_rules.specs.Answers.{finished_overdrawn, finished_none, finished_placed, finished_unplaced}
use Rattle.line_rules.specs.declared.Counts.{Counts}
use Rattle.line_rules.specs.declared.Totals.{Totals}

abbrev pub no_totals : Totals
no_totals = record { generated = 0; delivered = 0; numbered = false }

abbrev pub source_totalled : Totals → Plant → Totals
source_totalled t p = record { generated = t.generated + generation p; delivered = t.delivered; numbered = t.numbered }

abbrev pub delivery_totalled : Totals → Delivery → Totals
delivery_totalled t x = record { generated = t.generated; delivered = t.delivered + x.mwh; numbered = t.numbered || not (to_place x) }

-- 10, then 11
unfoldable pub finished_by : Counts → ℕ → Totals → Result (Unit {0}) Refusal
finished_by n losses t =
    when ltb t.generated (losses + t.delivered) then Err Overdrawn else
    when eqb n.deliveries 0 then Ok tt else
    when t.numbered then Ok tt else
    Err (Unplaced (n.sources + 2))

-- whether one of the first n deliveries has a number of its own
abbrev pub numbered_to : List Delivery → ℕ → Bool
numbered_to deliveries n = any_to (λ i. not (to_place (get_or deliveries i no_delivery))) n

-- the totals of the first n sources and the first m deliveries
pub record Totalled (sources : List Source) (n : ℕ) (deliveries : List Delivery) (m : ℕ) (t : Totals) : Type 0 where
  pub generated : t.generated ≡ generated_to sources n
  pub delivered : t.delivered ≡ delivered_to deliveries m
  pub numbered : t.numbered ≡ numbered_to deliveries m
  pub most_generated : t.generated ≤ n * above_one
  pub most_delivered : t.delivered ≤ m * above_one

pub totalled_none : (sources : List Source) (deliveries : List Delivery) → Totalled sources 0 deliveries 0 no_totals
unfolding words.any_to
totalled_none sources deliveries = record { generated = sum_to_none _; delivered = sum_to_none _; numbered = refl; most_generated = omega arith; most_delivered = omega arith }

-- an any to n is the same of a list that is the same below n
any_same : (p q : ℕ → Bool) (n : ℕ) → ((i : ℕ) → i < n → p i ≡ q i) → any_to p n ≡ any_to q n
unfolding words.any_to
any_same p q zero h = refl
any_same p q (suc n) h = rw (any_same p q n (λ i l. h i (omega arith)), h n (omega arith))

any_more : (p : ℕ → Bool) (n : ℕ) → any_to p (n + 1) ≡ (any_to p n || p n)
unfolding words.any_to
any_more p n = rw add-one

-- One entry more: of a list that is the same before it.

module _ (ss : List Source) (n : ℕ) (ds : List Delivery) (m : ℕ) (t : Totals) (k : Totalled ss n ds m t) where
  pub totalled_source : (ss' : List Source) (x : Source) (u : Totals) → ((i : ℕ) → i < n → get_or ss' i no_source ≡ get_or ss i no_source) → get_or ss' n no_source ≡ x
      → u ≡ source_totalled t x.plant → u.generated ≤ t.generated + above_one → Totalled ss' (n + 1) ds m u
  totalled_source ss' x u same new e most =
      record {
        generated = ap (λ (u : Totals). u.generated) e
            ∙ sum_to_more _ _ _ _ (k.generated ∙ sum_to_same n _ _ (λ i l. ap (λ (x : Source). generation x.plant) (sym (same i l)))) (ap (λ (x : Source). generation x.plant) (sym new));
        delivered = ap (λ (u : Totals). u.delivered) e ∙ k.delivered;
        numbered = ap (λ (u : Totals). u.numbered) e ∙ k.numbered;
        most_generated = omega (arith, k.most_generated, most);
        most_delivered = rw (ap (λ (u : Totals). u.delivered) e) k.most_delivered;
      }

  pub totalled_delivery : (ds' : List Delivery) (x : Delivery) (u : Totals) → ((i : ℕ) → i < m → get_or ds' i no_delivery ≡ get_or ds i no_delivery) → get_or ds' m no_delivery ≡ x
      → u ≡ delivery_totalled t x → u.delivered ≤ t.delivered + above_one → Totalled ss n ds' (m + 1) u
  totalled_delivery ds' x u same new e most =
      let all : any_to (λ i. not (to_place (get_or ds i no_delivery))) m ≡ any_to (λ i. not (to_place (get_or ds' i no_delivery))) m
      = any_same _ _ m (λ i l. ap (λ (x : Delivery). not (to_place x)) (sym (same i l))) in
      record {
        generated = ap (λ (u : Totals). u.generated) e ∙ k.generated;
        delivered = ap (λ (u : Totals). u.delivered) e
            ∙ sum_to_more _ _ _ _ (k.delivered ∙ sum_to_same m _ _ (λ i l. ap (λ (x : Delivery). x.mwh) (sym (same i l)))) (ap (λ (x : Delivery). x.mwh) (sym new));
        numbered = ap (λ (u : Totals). u.numbered) e ∙ ap (λ (b : Bool). b || not (to_place x)) (k.numbered ∙ all)
            ∙ ap (λ (y : Delivery). any_to (λ i. not (to_place (get_or ds' i no_delivery))) m || not (to_place y)) (sym new) ∙ sym (any_more (λ i. not (to_place (get_or ds' i no_delivery))) m);
        most_generated = rw (ap (λ (u : Totals). u.generated) e) k.most_generated;
        most_delivered = omega (arith, k.most_delivered, most);
      }

-- The end.

found_some : (x : Option ℕ) → is_some (spot_of x) ≡ true → (i : ℕ) × (x ≡ some i)
found_some none e = false_not_true e
found_some (some i) e = (i, refl)

found_none : (x : Option ℕ) → is_some (spot_of x) ≡ false → x ≡ none
found_none none e = refl
found_none (some i) e = true_not_false e

pub finished_by_lem : (h : Hour) (t : Totals) → Totalled h.sources h.nsources h.deliveries h.ndeliveries t → finished_by (counts_of h) h.losses t ≡ verdict_of (finished h)
unfolding finished_by
finished_by_lem h t k = go (ltb (generated h) (h.losses + delivered h)) refl (eqb h.ndeliveries 0) refl t.numbered refl
  where
    found_numbered : is_some (spot_of (placer h)) ≡ t.numbered
    found_numbered = sym (k.numbered ∙ found_any (λ i. not (to_place (get_or h.deliveries i no_delivery))) h.ndeliveries)

    go : (o : Bool) → ltb (generated h) (h.losses + delivered h) ≡ o → (z : Bool) → eqb h.ndeliveries 0 ≡ z → (b : Bool) → t.numbered ≡ b
        → finished_by (counts_of h) h.losses t ≡ verdict_of (finished h)
    go true oe z ze b be = rw (k.generated, k.delivered, oe) (finished_overdrawn h oe)
    go false oe true ze b be = rw (k.generated, k.delivered, oe, ze) (finished_none h oe (eqb-true h.ndeliveries 0 ze))
    go false oe false ze true be =
        let j = found_some (placer h) (found_numbered ∙ be) in
        rw (k.generated, k.delivered, oe, ze, be) (finished_placed h j.0 oe j.1)
    go false oe false ze false be =
        rw (k.generated, k.delivered, oe, ze, be) (finished_unplaced h oe (eqb-false h.ndeliveries 0 ze) (found_none (placer h) (found_numbered ∙ be)))
