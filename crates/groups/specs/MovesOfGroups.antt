-- The table between groups: each group that is done has a first member, which leads it, and in that member's row the moves whose amounts its members' cells are shares of.
use Rattle.std.specs.Prelude.{Bool, true, false, List, ◌∷◌, ◌≢◌, ◌≡◌, refl, ℕ, ◌+◌, ◌*◌, ◌≤◌, ◌<◌, pos, length, get_or, set, replicate}
use Rattle.std.proofs.Common.{sym, ap, ◌∙◌, arith, length-set, get_or-set_same, get_or-set_other}
use Rattle.std.proofs.Math.Decide.{dec_lt, ℕ_discrete}
use Rattle.std.proofs.lemmas.List.{length-replicate, get_or-replicate}
use Rattle.std.proofs.Math.ListN.{get_or-eq_default}
use Rattle.groups.specs.RowKept.{RowKept}
use Rattle.laws.specs.Choices.{true_not_false}
use Rattle.laws.specs.Keys.{key_same, key_itself, among, among_first, among_later, among_neither}
use Rattle.members.specs.Leads.{Lead, LeadsGroup}
use Rattle.merit.specs.LevelNeverBelowB.{state_at}
use Rattle.moves.specs.LaterStates.{Later, later_same, later_then, took_later, moved_later}
use Rattle.moves.specs.MovesKept.{AllLow, Entries, low_none}
use Rattle.moves.specs.ToldIsTaken.{SourceRuns, taken}
use Rattle.rules.specs.Group.{Item}
use Rattle.rules.specs.Hour.{key_at, same_key, member, scheduled, Cells, share, shared}
use Rattle.rules.specs.declared.Hour.{Hour}
use Rattle.rules.specs.declared.Key.{Key}
use Rattle.rules.specs.declared.Running.{Running}

module _ (h : Hour) (ks : List Key) where
  -- delivery k's group went from ss by ts to us, which its lead's row has; k's cells are shares of what it took, and the sources stand at es now
  pub record Owed (cells : Cells) (led kept : List ℕ) (es : List Running) (k : ℕ) : Type 0 where
    pub lead : ℕ
    pub leads : Lead ks h.ndeliveries (key_at ks k) lead
    pub marked : 0 < get_or led lead 0
    pub ss : List Running
    pub ts : List Running
    pub us : List Running
    pub runs : SourceRuns ss ts us
    pub entries : Entries ss us h.nsources (lead * 32) kept
    pub later : (i : ℕ) → Later (state_at us i) (state_at es i)
    pub cell : (i : ℕ) (item : Item) → i < h.nsources → cells k i item ≡ share h ks (key_at ks k) (taken ss ts us i item) k

  -- the groups of xs are still to come, and all others are done
  pub record Kept (xs : List Key) (cells : Cells) (led kept : List ℕ) (es : List Running) : Type 0 where
    pub led_long : length led ≡ 32
    pub long : length kept ≡ 1024
    pub low : AllLow kept
    pub leads : (j : ℕ) → j < h.ndeliveries → 0 < get_or led j 0 → LeadsGroup h ks led j
    pub owed : (k : ℕ) → k < h.ndeliveries → among xs (key_at ks k) ≡ false → Owed cells led kept es k
    pub blank : (j i : ℕ) → j < h.ndeliveries → among xs (key_at ks j) ≡ true → i < 32 → get_or kept (j * 32 + i) 0 ≡ 0

  zero_read : (n p : ℕ) → ◌≡◌ {A = ℕ} (get_or (replicate n 0) p 0) 0
  zero_read n p = elim (dec_lt p n) [
    | yes l ↦ get_or-replicate n p 0 0 l
    | no l ↦ get_or-eq_default (replicate n 0) 0 {n = p} (omega (arith, length-replicate {A = ℕ} n 0))
  ]

  -- none is done yet
  pub kept_start : (xs : List Key) (es : List Running) → ((k : ℕ) → k < h.ndeliveries → among xs (key_at ks k) ≡ true) → Kept xs (λ j i item. pos 0) (replicate 32 0) (replicate 1024 0) es
  kept_start xs es all = record {
    led_long = refl;
    long = refl;
    low = λ p. low_none _ (zero_read 1024 p);
    leads = λ j l m. absurd (omega (arith, zero_read 32 j));
    owed = λ k l a. true_not_false (sym (all k l) ∙ a);
    blank = λ j i l m n. zero_read 1024 (j * 32 + i);
  }

  -- group x is led by a delivery, and its moves are in that row alone
  module _ (x : Key) (xs : List Key) (lead : ℕ) (cells : Cells) (led kept : List ℕ) (ss : List Running) (s : Kept (x ∷ xs) cells led kept ss) (few : h.nsources ≤ 32) (most : h.ndeliveries ≤ 32) (l : Lead ks h.ndeliveries x lead) where
    its_key : key_at ks lead ≡ x
    its_key = key_same (key_at ks lead) x l.key

    -- nothing stands in that row yet
    pub row_blank : (i : ℕ) → i < h.nsources → get_or kept (lead * 32 + i) 0 ≡ 0
    row_blank i b = s.blank lead i l.within (rw its_key (among_first x xs)) (omega arith)

    pub row_within : lead < 32
    row_within = omega (arith, l.within)

    module _ (ts us : List Running) (kept' : List ℕ) (d : RowKept lead h.nsources ss kept us kept') (r : SourceRuns ss ts us) where
      shared_member : (k i : ℕ) (item : Item) → member ks x k ≡ true → shared h ks x ss ts us cells k i item ≡ share h ks x (taken ss ts us i item) k
      unfolding shared
      shared_member k i item e = rw e

      shared_other : (k i : ℕ) (item : Item) → member ks x k ≡ false → shared h ks x ss ts us cells k i item ≡ cells k i item
      unfolding shared
      shared_other k i item e = rw e

      -- another group's row is as it was
      other_entries : (j : ℕ) (ss₁ us₁ : List Running) → j ≢ lead → Entries ss₁ us₁ h.nsources (j * 32) kept → Entries ss₁ us₁ h.nsources (j * 32) kept'
      other_entries j ss₁ us₁ e g i b = rw (d.apart.kept j i e (omega arith)) (g i b)

      goes_on : (i : ℕ) → Later (state_at ss i) (state_at us i)
      goes_on i = later_then _ _ _ (took_later _ _ (r i).took) (moved_later _ _ (r i).moved)

      module _ (total : ℕ) (sum : total ≡ scheduled h ks x h.ndeliveries) where
        led_other : (j : ℕ) → j ≢ lead → get_or (set led lead (total + 1)) j 0 ≡ get_or led j 0
        led_other j e = get_or-set_other led lead j (total + 1) 0 e

        led_same : get_or (set led lead (total + 1)) lead 0 ≡ total + 1
        led_same = get_or-set_same led lead (total + 1) 0 (omega (arith, row_within, s.led_long))

        it_leads : LeadsGroup h ks (set led lead (total + 1)) lead
        it_leads = record { lead = rw its_key l; sum = rw its_key (omega (arith, led_same, sum)) }

        other_leads : (j : ℕ) → j ≢ lead → LeadsGroup h ks led j → LeadsGroup h ks (set led lead (total + 1)) j
        other_leads j e g = record { lead = g.lead; sum = led_other j e ∙ g.sum }

        its_owed : (k : ℕ) → key_at ks k ≡ x → Owed (shared h ks x ss ts us cells) (set led lead (total + 1)) kept' us k
        its_owed k e = record {
          lead = lead;
          leads = rw e l;
          marked = omega (arith, led_same);
          ss = ss;
          ts = ts;
          us = us;
          runs = r;
          entries = d.entries;
          later = λ i. later_same (state_at us i);
          cell = λ i item b. shared_member k i item (rw e (key_itself x)) ∙ rw e refl;
        }

        other_owed : (k : ℕ) → same_key (key_at ks k) x ≡ false → Owed cells led kept ss k → Owed (shared h ks x ss ts us cells) (set led lead (total + 1)) kept' us k
        other_owed k e o =
            let f : o.lead ≢ lead = λ q. true_not_false (sym (key_itself x) ∙
            ap (λ (y : Key). same_key y x) (sym (sym (key_same (key_at ks o.lead) (key_at ks k) o.leads.key) ∙ ap (λ (j : ℕ). key_at ks j) q ∙ its_key)) ∙ e) in
            record {
              lead = o.lead;
              leads = o.leads;
              marked = omega (arith, led_other o.lead f, o.marked);
              ss = o.ss;
              ts = o.ts;
              us = o.us;
              runs = o.runs;
              entries = other_entries o.lead o.ss o.us f o.entries;
              later = λ i. later_then _ _ _ (o.later i) (goes_on i);
              cell = λ i item b. shared_other k i item e ∙ o.cell i item b;
            }

        pub kept_turn : among xs x ≡ false → Kept xs (shared h ks x ss ts us cells) (set led lead (total + 1)) kept' us
        kept_turn once = record {
          led_long = length-set led lead (total + 1) ∙ s.led_long;
          long = d.long;
          low = d.low;
          leads = λ j b c. elim (ℕ_discrete j lead) [
            | yes e ↦ rw e it_leads
            | no e ↦ other_leads j e (s.leads j b (omega (arith, led_other j e)))
          ];
          owed = λ k b c. owed_by (same_key (key_at ks k) x) k b c refl;
          blank = λ j i b c f.
              let e : j ≢ lead = λ q. true_not_false (sym c ∙ ap (among xs) (ap (λ (y : ℕ). key_at ks y) q ∙ its_key) ∙ once) in
              d.apart.kept j i e f ∙ s.blank j i b (among_later x xs (key_at ks j) c) f;
        }
          where
            owed_by : (a : Bool) (k : ℕ) → k < h.ndeliveries → among xs (key_at ks k) ≡ false → same_key (key_at ks k) x ≡ a → Owed (shared h ks x ss ts us cells) (set led lead (total + 1)) kept' us k
            owed_by true k b c e = its_owed k (key_same (key_at ks k) x e)
            owed_by false k b c e = other_owed k e (s.owed k b (among_neither x xs (key_at ks k) e c))
