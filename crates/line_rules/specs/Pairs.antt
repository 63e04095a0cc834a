-- The pair that a D line names: a unit and a delivery that stand in the tables.
use Rattle.std.specs.Prelude.{◌≡◌, refl, Bool, List, eqb, get_or, Option, Some, None}
use Rattle.std.proofs.Math.Bool.{true, false}
use Rattle.std.proofs.Math.Option.{Option as Maybe, none, some}
use Prim.Native.Nat.{ℕ, ◌<◌}
use Rattle.std.proofs.lemmas.Option.{some_pair_parts}
use Rattle.rules.specs.Words.{when◌then◌else◌}
use Rattle.laws.specs.Lists.{find_to_passes}
use Rattle.line_rules.specs.Spellings.{same_spelling, spot_of, spelling_at, spelling_to, spelling_found}
use Rattle.line_rules.specs.Tried as tried
use Rattle.line_rules.specs.Tried.{on_spot, pair_found}
use Rattle.line_rules.specs.SpellingTells.{same_spelling_tells}
use Rattle.line_rules.specs.declared.Spelling.{Spelling}
use Rattle.line_rules.specs.declared.Counts.{Counts}
use Rattle.line_rules.specs.declared.DirectLine.{DirectLine}

-- the pair of two spellings that are found
pub pair_at : (n : Counts) (x : DirectLine) (slo shi tlo thi high : List ℕ) (i j : ℕ) → spelling_to slo shi x.unit n.sources ≡ some i → spelling_to tlo thi x.delivery n.deliveries ≡ some j
    → pair_found n x slo shi tlo thi high ≡ (when eqb (get_or high i 0) 0 then None else Some (i, j))
unfolding tried.pair_found
pair_at n x slo shi tlo thi high i j e f = rw (e, f)

-- where they stand, and that the spellings there are those named
pub record Paired (n : Counts) (x : DirectLine) (slo shi tlo thi : List ℕ) (i j : ℕ) : Type 0 where
  pub source : i < n.sources
  pub delivery : j < n.deliveries
  pub unit_spelling : spelling_at slo shi i ≡ x.unit
  pub delivery_spelling_lem : spelling_at tlo thi j ≡ x.delivery

module _ (i j : ℕ) where
  -- a spelling that is found, and what comes after
  record Spotted (lo hi : List ℕ) (n : ℕ) (spelling : Spelling) (after : ℕ → Option (ℕ × ℕ)) : Type 0 where
    at : ℕ
    below : at < n
    is : spelling_at lo hi at ≡ spelling
    goes : after at ≡ Some (i, j)

  spot_both : (lo hi : List ℕ) (n : ℕ) (spelling : Spelling) (after : ℕ → Option (ℕ × ℕ)) → on_spot (spelling_found lo hi n spelling) after ≡ Some (i, j) → Spotted lo hi n spelling after
  spot_both lo hi n spelling after e = go (spelling_to lo hi spelling n) refl e
    where
      go : (o : Maybe ℕ) → spelling_to lo hi spelling n ≡ o → on_spot (spot_of o) after ≡ Some (i, j) → Spotted lo hi n spelling after
      go none f e = absurd cc
      go (some k) f e =
          let p = find_to_passes (λ i. same_spelling (spelling_at lo hi i) spelling) n k f in
          record { at = k; below = p.0; is = same_spelling_tells (spelling_at lo hi k) spelling p.1; goes = e }

  pub pair_within : (n : Counts) (x : DirectLine) (slo shi tlo thi high : List ℕ) → pair_found n x slo shi tlo thi high ≡ Some (i, j) → Paired n x slo shi tlo thi i j
  unfolding tried.pair_found
  pair_within n x slo shi tlo thi high e =
      let a = spot_both slo shi n.sources x.unit _ e in
      go a (eqb (get_or high a.at 0) 0) a.goes
    where
      go : {after : ℕ → Option (ℕ × ℕ)} (a : Spotted slo shi n.sources x.unit after) (z : Bool)
          → (when z then None else on_spot (spelling_found tlo thi n.deliveries x.delivery) (λ j. Some (a.at, j))) ≡ Some (i, j) → Paired n x slo shi tlo thi i j
      go a true e = absurd cc
      go a false e =
          let b = spot_both tlo thi n.deliveries x.delivery _ e in
          let p = some_pair_parts a.at i b.at j b.goes in
          rw (← p.0, ← p.1) (record { source = a.below; delivery = b.below; unit_spelling = a.is; delivery_spelling_lem = b.is })
