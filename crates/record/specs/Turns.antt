-- Lines fed in turn: each entry stays as the hour grows, and a class of entries goes through all together or not at all.
use Rattle.std.specs.Prelude.{◌≡◌, refl, Bool, false, ◌&&◌, List, [], ◌∷◌, ◌++◌, get_or, set}
use Rattle.std.proofs.Math.Path.{ap}
use Rattle.std.proofs.Common.{sym, subst, ◌∙◌, append_assoc, arith, get_or-set_other}
use Rattle.std.proofs.Math.Bool.{true}
use Prim.Native.Nat.{ℕ, zero, suc, ◌+◌, ◌<◌, ◌≤◌}
use Rattle.rules.specs.Words as words
use Rattle.rules.specs.Words.{list_to, all_to}
use Rattle.rules.specs.Refusals.{Outcome, accepted, refused, and_then}
use Rattle.rules.specs.Lines.{Line}
use Rattle.rules.specs.Group.{no_direct}
use Rattle.rules.specs.Sequences.{no_delivery}
use Rattle.rules.specs.Record.{no_source}
use Rattle.rules.specs.Reading as reading
use Rattle.rules.specs.Reading.{taken, feed}
use Rattle.rules.specs.Writing as writing
use Rattle.rules.specs.Writing.{all_labelled}
use Rattle.rules.specs.declared.Hour.{Hour}
use Rattle.laws.specs.Choices.{both_true, accepted_same, then_passed}
use Rattle.roundtrip.specs.Lines.{line_labelled}
use Rattle.roundtrip.specs.Taken.{Entry, source, delivery, direct, taken_passed}
use Rattle.line_rules.specs.Tried.{Tables}
use Rattle.line_rules.specs.Kept.{Kept}

-- Entries stay.

-- a list's first n elements, in a longer one
pub record Stays {A : Type 0} (default : A) (xs : List A) (n : ℕ) (ys : List A) (m : ℕ) : Type 0 where
  pub longer : n ≤ m
  pub same : (i : ℕ) → i < n → get_or ys i default ≡ get_or xs i default

pub record Extends (a b : Hour) : Type 0 where
  pub sources : Stays no_source a.sources a.nsources b.sources b.nsources
  pub deliveries : Stays no_delivery a.deliveries a.ndeliveries b.deliveries b.ndeliveries
  pub directs : Stays no_direct a.directs a.ndirects b.directs b.ndirects

module _ {A : Type 0} (default : A) where
  stays_self : (xs : List A) (n : ℕ) → Stays default xs n xs n
  stays_self xs n = record { longer = omega arith; same = λ i l. refl }

  stays_more : (xs : List A) (n : ℕ) (x : A) → Stays default xs n (set xs n x) (n + 1)
  stays_more xs n x = record { longer = omega arith; same = λ i l. get_or-set_other xs n i x default (λ e. omega arith) }

  stays_on : (xs ys zs : List A) (n m o : ℕ) → Stays default xs n ys m → Stays default ys m zs o → Stays default xs n zs o
  stays_on xs ys zs n m o p q =
      let a = p.longer in
      let b = q.longer in
      record { longer = omega arith; same = λ i l. q.same i (omega arith) ∙ p.same i l }

extends_on : (a b c : Hour) → Extends a b → Extends b c → Extends a c
extends_on a b c p q =
    record {
      sources = stays_on no_source a.sources b.sources c.sources _ _ _ p.sources q.sources;
      deliveries = stays_on no_delivery a.deliveries b.deliveries c.deliveries _ _ _ p.deliveries q.deliveries;
      directs = stays_on no_direct a.directs b.directs c.directs _ _ _ p.directs q.directs;
    }

extends_self : (h : Hour) → Extends h h
extends_self h = record { sources = stays_self no_source h.sources h.nsources; deliveries = stays_self no_delivery h.deliveries h.ndeliveries; directs = stays_self no_direct h.directs h.ndirects }

entry_extends : (h : Hour) (l : Line) (after : Hour) → Entry h l after → Extends h after
entry_extends h l after (source x e t) =
    subst (Extends h) t.is
    (record { sources = stays_more no_source h.sources h.nsources x; deliveries = stays_self no_delivery h.deliveries h.ndeliveries; directs = stays_self no_direct h.directs h.ndirects })
entry_extends h l after (delivery x e t) =
    subst (Extends h) t.is
    (record { sources = stays_self no_source h.sources h.nsources; deliveries = stays_more no_delivery h.deliveries h.ndeliveries x; directs = stays_self no_direct h.directs h.ndirects })
entry_extends h l after (direct x e t) =
    subst (Extends h) t.is
    (record { sources = stays_self no_source h.sources h.nsources; deliveries = stays_self no_delivery h.deliveries h.ndeliveries; directs = stays_more no_direct h.directs h.ndirects x })

pub fed_extends : (ls : List Line) (h after : Hour) → feed h ls ≡ accepted after → Extends h after
unfolding reading.feed
fed_extends [] h after e = subst (Extends h) (accepted_same h after e) (extends_self h)
fed_extends (l ∷ ls) h after e =
    let a = then_passed (taken h l) (λ m. feed m ls) after e in
    extends_on h a.mid after (entry_extends h l a.mid (taken_passed h l a.mid a.first).entry) (fed_extends ls a.mid after a.second)

-- Lines in turn.

pub feed_append : (ls ms : List Line) (h : Hour) → feed h (ls ++ ms) ≡ and_then (feed h ls) (λ x. feed x ms)
unfolding reading.feed
feed_append [] ms h = refl
feed_append (l ∷ ls) ms h = go (taken h l) (feed_append ls ms)
  where
    go : (o : Outcome Hour) → ((x : Hour) → feed x (ls ++ ms) ≡ and_then (feed x ls) (λ x. feed x ms))
        → and_then o (λ x. feed x (ls ++ ms)) ≡ and_then (and_then o (λ x. feed x ls)) (λ x. feed x ms)
    go (accepted x) ih = ih x
    go (refused r) ih = refl

pub labels_append : (ls ms : List Line) → all_labelled (ls ++ ms) ≡ (all_labelled ls && all_labelled ms)
unfolding writing.all_labelled
labels_append [] ms = refl
labels_append (l ∷ ls) ms = go (line_labelled l) (labels_append ls ms)
  where
    go : (b : Bool) → all_labelled (ls ++ ms) ≡ (all_labelled ls && all_labelled ms) → (b && all_labelled (ls ++ ms)) ≡ ((b && all_labelled ls) && all_labelled ms)
    go true ih = ih
    go false ih = refl

-- A class of entries.

-- the entry i goes through: its line is a line, and the hour and the tables are those with one entry more
pub record Step (line : ℕ → Line) (hour : ℕ → Hour) (tables : ℕ → Tables) (i : ℕ) : Type 0 where
  pub labels : line_labelled (line i) ≡ true
  pub goes : taken (hour i) (line i) ≡ accepted (hour (suc i))
  pub kept : Kept (hour (suc i)) (tables (suc i))

module _ (line : ℕ → Line) (hour : ℕ → Hour) (tables : ℕ → Tables) (own : ℕ → Bool)
    (step : (i : ℕ) → Kept (hour i) (tables i) → own i ≡ true → Step line hour tables i) (start : Kept (hour 0) (tables 0)) where
  pub record Fed (n : ℕ) : Type 0 where
    pub fed : feed (hour 0) (list_to (λ i. line i ∷ []) n) ≡ accepted (hour n)
    pub labels : all_labelled (list_to (λ i. line i ∷ []) n) ≡ true
    pub kept : Kept (hour n) (tables n)

  -- entries that pass are fed
  pub all_fed : (n : ℕ) → all_to own n ≡ true → Fed n
  unfolding words.all_to words.list_to reading.feed writing.all_labelled
  all_fed zero e = record { fed = refl; labels = refl; kept = start }
  all_fed (suc n) e =
      let b = both_true (all_to own n) (own n) e in
      let f = all_fed n b.0 in
      let s = step n f.kept b.1 in
      record {
        fed = feed_append (list_to (λ i. line i ∷ []) n) (line n ∷ []) (hour 0) ∙ rw (f.fed, s.goes);
        labels = labels_append (list_to (λ i. line i ∷ []) n) (line n ∷ []) ∙ rw (f.labels, s.labels);
        kept = s.kept;
      }

  pub record All (n : ℕ) (more : List Line) (h : Hour) : Type 0 where
    pub all : all_to own n ≡ true
    pub rest : feed (hour n) more ≡ accepted h
    pub kept : Kept (hour n) (tables n)

  -- entries that are fed pass
  pub fed_all : (h : Hour) (most : ℕ)
      → ((i : ℕ) → i < most → Kept (hour i) (tables i) → line_labelled (line i) ≡ true → (mid : Hour) (more : List Line) → taken (hour i) (line i) ≡ accepted mid
      → feed mid more ≡ accepted h → own i ≡ true)
      → (n : ℕ) → n ≤ most → (more : List Line) → all_labelled (list_to (λ i. line i ∷ []) n) ≡ true → feed (hour 0) (list_to (λ i. line i ∷ []) n ++ more) ≡ accepted h
      → All n more h
  unfolding words.all_to words.list_to reading.feed writing.all_labelled
  fed_all h most back zero l more lb e = record { all = refl; rest = e; kept = start }
  fed_all h most back (suc n) l more lb e =
      let lines = list_to (λ i. line i ∷ []) n in
      let p = both_true (all_labelled lines) _ (sym (labels_append lines (line n ∷ [])) ∙ lb) in
      let r = fed_all h most back n (omega arith) (line n ∷ more) p.0 (ap (feed (hour 0)) (sym (append_assoc lines (line n ∷ []) more)) ∙ e) in
      let a = then_passed (taken (hour n) (line n)) (λ m. feed m more) h r.rest in
      let o = back n l r.kept (both_true (line_labelled (line n)) true p.1).0 a.mid more a.first a.second in
      let s = step n r.kept o in
      let same : a.mid ≡ hour (suc n) = accepted_same a.mid (hour (suc n)) (sym a.first ∙ s.goes) in
      record { all = rw (r.all, o); rest = ap (λ (m : Hour). feed m more) (sym same) ∙ a.second; kept = s.kept }
