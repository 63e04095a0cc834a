-- The tables that are kept beside a growing hour, and what they tell of it.
use Rattle.std.specs.Prelude.{◌≡◌, refl, Bool, not, ◌&&◌, List, ℕ, suc, ◌+◌, ◌<◌, eqb, length, get_or, set, replicate, is_some}
use Rattle.std.proofs.Math.Path.{ap}
use Rattle.std.proofs.Common.{sym, ◌∙◌, add-one, arith}
use Rattle.std.proofs.Math.Option.{Option, none, some}
use Rattle.std.proofs.Math.Decide.{dec_lt}
use Rattle.std.proofs.Math.ListN.{length-set}
use Rattle.std.proofs.Math.Seq.{get_or-set_same, get_or-set_other}
use Rattle.rules.specs.Words.{any_to, find_to}
use Rattle.rules.specs.Units.{is_unit}
use Rattle.rules.specs.Record.{same_label, source_at, delivery_at}
use Rattle.rules.specs.Reading.{basis_kept, percents_of}
use Rattle.rules.specs.declared.Label.{Label}
use Rattle.rules.specs.declared.Plant.{Plant}
use Rattle.rules.specs.declared.Basis.{Basis}
use Rattle.rules.specs.declared.Hour.{Hour}
use Rattle.laws.specs.Choices.{true_not_false}
use Rattle.laws.specs.Lists.{find_to_none}
use Rattle.laws.specs.Sums.{below_suc}
use Rattle.line_rules.specs.Spellings.{spelling_of, same_spelling, spot_of, spelling_at, spelling_to, spelling_found}
use Rattle.line_rules.specs.Tried.{counts_of, Few, Tables, unit_high, code_leaves}
use Rattle.line_rules.specs.Finds.{find_to_only, find_to_same, found_any, kept, find_to_both}
use Rattle.line_rules.specs.SpellingTells.{Labelled, same_spelling_tells, same_spelling_self, spelling_tells}
use Rattle.line_rules.specs.declared.Spelling.{Spelling}

-- The spellings of one class.

-- the first n labels of a class are labels, no two the same, and the tables hold their spellings
pub record Spelled (label : ℕ → Label) (n : ℕ) (lo hi : List ℕ) : Type 0 where
  pub lo_size : length lo ≡ 32
  pub hi_size : length hi ≡ 32
  pub labelled : (i : ℕ) → i < n → Labelled (label i)
  pub spelling : (i : ℕ) → i < n → spelling_at lo hi i ≡ spelling_of (label i)
  pub apart : (i j : ℕ) → i < n → j < n → spelling_at lo hi i ≡ spelling_at lo hi j → i ≡ j

pub spelled_none : (label : ℕ → Label) → Spelled label 0 (replicate 32 0) (replicate 32 0)
spelled_none label =
    record {
      lo_size = refl;
      hi_size = refl;
      labelled = λ i l. absurd (omega arith);
      spelling = λ i l. absurd (omega arith);
      apart = λ i j l m e. absurd (omega arith);
    }

-- one label more, which no other is
module _ (label after : ℕ → Label) (n : ℕ) (lo hi : List ℕ) (l : Label) (lt : n < 32) (k : Spelled label n lo hi)
    (same : (i : ℕ) → i < n → after i ≡ label i) (new : after n ≡ l) (unused : spelling_to lo hi (spelling_of l) n ≡ none) where
  lo' : List ℕ
  lo' = set lo n (spelling_of l).lo

  hi' : List ℕ
  hi' = set hi n (spelling_of l).hi

  older : (i : ℕ) → i < n → spelling_at lo' hi' i ≡ spelling_at lo hi i
  unfolding lo' hi'
  older i h = rw (get_or-set_other lo n i (spelling_of l).lo 0 (λ e. omega arith), get_or-set_other hi n i (spelling_of l).hi 0 (λ e. omega arith))

  newest : spelling_at lo' hi' n ≡ spelling_of l
  unfolding lo' hi'
  newest = let a = k.lo_size in let b = k.hi_size in rw (get_or-set_same lo n (spelling_of l).lo 0 (omega arith), get_or-set_same hi n (spelling_of l).hi 0 (omega arith))

  not_older : (i : ℕ) → i < n → spelling_at lo hi i ≡ spelling_of l → ⊥
  not_older i h e = true_not_false (sym (ap (λ (x : Spelling). same_spelling x (spelling_of l)) e ∙ same_spelling_self (spelling_of l)) ∙ find_to_none (λ i. same_spelling (spelling_at lo hi i) (spelling_of l)) n unused i h)

  apart_more : (i j : ℕ) → i < suc n → j < suc n → spelling_at lo' hi' i ≡ spelling_at lo' hi' j → i ≡ j
  apart_more i j a b e = elim (dec_lt i n) [
    | yes p ↦ elim (dec_lt j n) [
      | yes q ↦ k.apart i j p q (sym (older i p) ∙ e ∙ older j q)
      | no q ↦ (let z : j ≡ n = omega arith in absurd (not_older i p (sym (older i p) ∙ e ∙ ap (spelling_at lo' hi') z ∙ newest)))
    ]
    | no p ↦ elim (dec_lt j n) [
      | yes q ↦ (let z : i ≡ n = omega arith in absurd (not_older j q (sym (older j q) ∙ sym e ∙ ap (spelling_at lo' hi') z ∙ newest)))
      | no q ↦ omega arith
    ]
  ]

  pub spelled_more : Labelled l → Spelled after (n + 1) (set lo n (spelling_of l).lo) (set hi n (spelling_of l).hi)
  unfolding lo' hi'
  spelled_more p =
      record {
        lo_size = simp length-set k.lo_size;
        hi_size = simp length-set k.hi_size;
        labelled = rw (add-one n) (below_suc (λ i. Labelled (after i)) n (λ i h. rw (same i h) (k.labelled i h)) (rw new p));
        spelling = rw (add-one n)
            (below_suc (λ i. spelling_at lo' hi' i ≡ spelling_of (after i)) n
            (λ i h. older i h ∙ k.spelling i h ∙ ap spelling_of (sym (same i h)))
            (newest ∙ ap spelling_of (sym new)));
        apart = rw (add-one n) apart_more;
      }

-- a spelling that stands in the tables is found there
pub spelled_at : (label : ℕ → Label) (n : ℕ) (lo hi : List ℕ) → Spelled label n lo hi → (i : ℕ) → i < n → spelling_to lo hi (spelling_at lo hi i) n ≡ some i
spelled_at label n lo hi k i l =
    find_to_only (λ j. same_spelling (spelling_at lo hi j) (spelling_at lo hi i)) n i l (same_spelling_self (spelling_at lo hi i))
    (λ j m e. k.apart j i m l (same_spelling_tells (spelling_at lo hi j) (spelling_at lo hi i) e))

-- a label is found where its spelling is
module _ (label : ℕ → Label) (n : ℕ) (lo hi : List ℕ) (k : Spelled label n lo hi) (l : Label) (p : Labelled l) where
  same_at : (i : ℕ) → i < n → same_label (label i) l ≡ same_spelling (spelling_at lo hi i) (spelling_of l)
  same_at i h = spelling_tells (label i) l (k.labelled i h) p ∙ ap (λ (x : Spelling). same_spelling x (spelling_of l)) (sym (k.spelling i h))

  pub spelled_found : find_to (λ i. same_label (label i) l) n ≡ spelling_to lo hi (spelling_of l) n
  spelled_found = find_to_same (λ i. same_label (label i) l) (λ i. same_spelling (spelling_at lo hi i) (spelling_of l)) n same_at

  pub spelled_used : any_to (λ i. same_label (label i) l) n ≡ is_some (spelling_found lo hi n (spelling_of l))
  spelled_used = found_any (λ i. same_label (label i) l) n ∙ ap (λ (x : Option ℕ). is_some (spot_of x)) spelled_found

  -- and as no two are the same, so is the first of them that passes another test
  pub spelled_both : (u : ℕ → Bool) → find_to (λ i. u i && same_label (label i) l) n ≡ kept u (spelling_to lo hi (spelling_of l) n)
  spelled_both u =
      find_to_both u (λ i. same_label (label i) l) n
      (λ i j a b e f. k.apart i j a b (same_spelling_tells (spelling_at lo hi i) (spelling_of l) (sym (same_at i a) ∙ e) ∙ sym (same_spelling_tells (spelling_at lo hi j) (spelling_of l) (sym (same_at j b) ∙ f))))
      ∙ ap (kept u) spelled_found

-- The tables of an hour.

-- a source's high is 0 just where it is no unit
pub record High (p : Plant) (v : ℕ) : Type 0 where
  pub is : v ≡ unit_high p
  pub unit : is_unit p ≡ not (eqb v 0)

pub record Kept (h : Hour) (t : Tables) : Type 0 where
  pub few : Few (counts_of h)
  pub sources_size : length h.sources ≡ 32
  pub deliveries_size : length h.deliveries ≡ 32
  pub directs_size : length h.directs ≡ 32
  pub high_size : length t.high ≡ 32
  pub based_size : length t.based ≡ 32
  pub percents_size : length t.percents ≡ 32
  pub sources : Spelled (λ i. (source_at h i).label) h.nsources t.slo t.shi
  pub deliveries : Spelled (λ i. (delivery_at h i).label) h.ndeliveries t.tlo t.thi
  pub high : (i : ℕ) → i < h.nsources → High (source_at h i).plant (get_or t.high i 0)
  pub based : (i : ℕ) → i < 32 → (b : Basis) → basis_kept h i b ≡ code_leaves (get_or t.based i 0) b
  pub percents : (i : ℕ) → i < 32 → percents_of h i ≡ get_or t.percents i 0
