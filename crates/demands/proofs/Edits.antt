-- The claim of specs/Edits.antt. What a render left from section k on stays so after an edit: from its start section on
-- the edit leaves a render of the new score (demand 3), and between section k and the start section both scores make
-- the same. A whole render is the case k = 0. Assumes nothing.
use Rattle.std.specs.Prelude.{None, Ok, Option, Some}
use mathlib.Core.Path.{◌≡◌, refl, sym, subst, ap, ◌∙◌}
use mathlib.Core.List.{List, [], ◌∷◌}
use mathlib.Core.Bool.{true}
use mathlib.Core.Logic.{⊎_elim}
use Prim.Native.Nat.{ℕ, ◌-◌, ◌*◌, ◌/◌, ◌≤◌, ◌<◌, min}
use native.Mathlib.Omega.{arith}
use lib.Dec.{T}
use lib.Ieee.{binary64, fits}
use Rattle.sections.specs.Outcome.{Buffers, samples_in, Lent, before, onward, Outcome, leaves}
use Rattle.answers.specs.Answer.{Answer}
use Rattle.score.specs.Below.{count_below}
use Rattle.score.specs.Apart.{difference_of}
use Rattle.score.proofs.Agree.{equal_exactly}
use Rattle.score.proofs.Cuts.{lt_or_ge}
use Rattle.shelf.specs.Shelf.{section_size, entries_for, shelf_of}
use Rattle.shelf.proofs.Count.{start_there}
use Rattle.state.specs.declared.Settings.{Settings}
use Rattle.state.specs.Settings.{settings_ok}
use Rattle.state.specs.State.{fresh_of}
use Rattle.state.specs.Heart.{entries_from}
use Rattle.state.proofs.Depends.{Shared, samples_shared, entries_shared, differing_shared}
use Rattle.judging.specs.Judging.{most_samples}
use Rattle.rerender.specs.Rerender.{plan_of, stop_of, count_for, rerender_of}
use Rattle.rerender.proofs.Cases.{plan_says, plan_equal, plan_late, plan_from, checks_pass, stop_alone}
use Rattle.demands.specs.Demand3.{Taken, Edit, BuffersOf, left_in, StopsAt, Remade}
use Rattle.demands.specs.Edits.{edits_from, last_score, all_counted, AllTaken, NoneBefore, Editing, Edited, EditedWhole, CountIs, AnyEdits}
use Rattle.demands.proofs.Demand3.{checked, demand_3, from_section, demand_3_holds}
use Rattle.demands.proofs.Cut.{Sized, lent-sized, sized-lent, over_at, cut-front, cut-sized, cut_back, cut_later}
use Rattle.demands.proofs.Whole.{sound_of, shelved_of, whole_of, whole-sized, sound_length, left_is, front-is}

-- ---- one edit
-- from section k on, the buffers hold what a render of s leaves, in n samples
pub record Holds (g : Settings) (s : List ℕ) (n k : ℕ) (b : Buffers) : Type 0 where
  pub sized : Sized n b
  pub holds : onward k b ≡ onward k (whole_of g s n)

module _ (g : Settings) (old new : List ℕ) (x : Edit g old new) (n : ℕ) (short : n ≤ most_samples) (k : ℕ) (later-than : (p : ℕ) → difference_of old new ≡ Some p → p < n → k * section_size ≤ p) (b : Buffers) (h : Holds g old n k b) where
  abbrev call : Outcome Answer
  call = rerender_of g old new b

  long : samples_in b ≡ n
  long = h.sized.long

  lent : Lent b
  lent = sized-lent n b short h.sized

  -- the call is done with the count that its plan has after a render of the old score, leaves from section k on what a
  -- render of the new score leaves, and before section k what came
  pub record OneEdit (o : Outcome Answer) : Type 0 where
    pub counted : o.result ≡ Ok (count_for g old new (plan_of old new n) (whole_of g old n))
    pub holds : Holds g new n k o.left
    pub stays : before k o.left ≡ before k b

  -- where the plan is nothing, both scores give the same samples and entries
  unchanged : None ≡ plan_of old new (samples_in b) → sound_of g old n ≡ sound_of g new n → shelved_of g old n ≡ shelved_of g new n → OneEdit call
  unchanged q s t =
      let same : whole_of g old n ≡ whole_of g new n = rw (s, t) refl in
      rw (checks_pass g old new b (checked g old new x b lent), ← q) (record { counted = rw (← ap (plan_of old new) long, ← q) refl; holds = record { sized = h.sized; holds = h.holds ∙ ap (onward k) same }; stays = refl })

  shared_to : (p q : ℕ) → difference_of old new ≡ Some p → q ≤ p → Shared old new q (count_below old q)
  shared_to p q e l = differing_shared old new x.old_taken.records x.new-taken.records p q x.old_taken.accepted x.new-taken.accepted e l

  late : (p : ℕ) → difference_of old new ≡ Some p → n ≤ p → OneEdit call
  late p e l =
      let s : Shared old new n (count_below old n) = shared_to p n e l in
      unchanged (plan_late old new (samples_in b) p e (omega (arith, long)))
      (samples_shared old new n (count_below old n) s g 0 (fresh_of 0) n (omega arith))
      (ap shelf_of (entries_shared old new n (count_below old n) s g 0 (fresh_of 0) (entries_for n) (λ i l. omega arith)))

  early : (p : ℕ) → difference_of old new ≡ Some p → p < n → OneEdit call
  early p e l =
      let m = p / section_size in
      let there : m < entries_for n = start_there n p l in
      let from-k : k * section_size ≤ p = later-than p e l in
      let s : Shared old new (m * section_size) (count_below old (m * section_size)) = shared_to p (m * section_size) e (omega arith) in
      -- before section m both scores make the same
      let alike : sound_of g old (m * section_size) ≡ sound_of g new (m * section_size) = samples_shared old new (m * section_size) (count_below old (m * section_size)) s g 0 (fresh_of 0) (m * section_size) (omega arith) in
      let entries : entries_from g old 0 (fresh_of 0) m ≡ entries_from g new 0 (fresh_of 0) m = entries_shared old new (m * section_size) (count_below old (m * section_size)) s g 0 (fresh_of 0) m (λ i l. omega arith) in
      let same : before m (whole_of g old n) ≡ before m (whole_of g new n) = front-is g old n m (omega arith) (omega arith) ∙ rw (alike, entries) refl ∙ sym (front-is g new n m (omega arith) (omega arith)) in
      -- from section m on the buffers hold what the old render left, so the call stops where it would stop in those
      let onwards : onward m b ≡ onward m (whole_of g old n) = cut_later k m b (whole_of g old n) (omega arith) h.holds in
      let stops : stop_of g old new m b ≡ stop_of g old new m (whole_of g old n) = stop_alone g old new m b (whole_of g old n) (long ∙ sym (sound_length g old n)) (ap (λ (c : Buffers). c.stored) onwards) in
      let d : call ≡ leaves (Ok (stop_of g old new m b - m * section_size)) (over_at m b (whole_of g new n)) = rw long at (demand_3 g old new x p e b lent (omega (arith, long)) (rw long onwards)) in
      rw d
      (record {
        counted = rw (← plan_from old new n p e l, stops) refl;
        holds = record {
          sized = cut-sized n m there b (whole_of g new n) h.sized (whole-sized g new n);
          holds = cut_back n m there b (whole_of g new n) h.sized (whole-sized g new n) (whole_of g old n) (whole-sized g old n) k (omega arith) h.holds same;
        };
        stays = cut-front n m there b (whole_of g new n) h.sized k (omega arith);
      })

  pub one_edit_lem : OneEdit call
  one_edit_lem = go (difference_of old new) refl
    where
      go : (d : Option ℕ) → difference_of old new ≡ d → OneEdit call
      go None e =
          let same : old ≡ new = (equal_exactly old new x.old_taken.records x.new-taken.records x.old_taken.accepted x.new-taken.accepted).no_other e in
          unchanged (plan_equal old new (samples_in b) e) (ap (λ (s : List ℕ). sound_of g s n) same) (ap (λ (s : List ℕ). shelved_of g s n) same)
      go (Some p) e = ⊎_elim (λ l. early p e l) (λ l. late p e l) (lt_or_ge p n)

-- ---- any number of edits
pub last_taken : (old : List ℕ) (news : List (List ℕ)) → Taken old → AllTaken news → Taken (last_score old news)
unfolding last_score
last_taken old [] a c = a
last_taken old (new ∷ rest) a c = last_taken new rest c.0 c.1

module _ (g : Settings) (ok : settings_ok g ≡ true) (w : T (fits binary64 g.adsr.sustain)) (n : ℕ) (short : n ≤ most_samples) (k : ℕ) where
  pub record ManyEdits (old : List ℕ) (news : List (List ℕ)) (b : Buffers) (o : Outcome (List Answer)) : Type 0 where
    pub answered : o.result ≡ all_counted g old news n
    pub holds : Holds g (last_score old news) n k o.left
    pub stays : before k o.left ≡ before k b

  pub all_edits : (old : List ℕ) (news : List (List ℕ)) → Taken old → AllTaken news → NoneBefore k n old news → (b : Buffers) → Holds g old n k b → ManyEdits old news b (edits_from g old news b)
  unfolding edits_from last_score all_counted
  all_edits old [] a c f b h = record { answered = refl; holds = h; stays = refl }
  all_edits old (new ∷ rest) a c f b h =
      let x : Edit g old new = record { settings = ok; sustain_fits = w; old_taken = a; new-taken = c.0 } in
      let one = one_edit_lem g old new x n short k f.0 b h in
      let r = rerender_of g old new b in
      let more = all_edits new rest c.0 c.1 f.1 r.left one.holds in
      record {
        answered = ap (λ (q : Answer). q ∷ (edits_from g new rest r.left).result) one.counted ∙ ap (λ (l : List Answer). Ok (count_for g old new (plan_of old new n) (whole_of g old n)) ∷ l) more.answered;
        holds = more.holds;
        stays = more.stays ∙ one.stays;
      }

-- ---- the claim
edited : (g : Settings) (old : List ℕ) (news : List (List ℕ)) (k : ℕ) (b : Buffers) → Editing g old news k b → Edited g old news k b (edits_from g old news b)
edited g old news k b e =
    let n = samples_in b in
    let h : Holds g old n k b = record { sized = lent-sized b e.lent; holds = e.honest.were_left ∙ ap (onward k) (left_is g e.settings old e.old_taken n e.honest.buffers) } in
    let m = all_edits g e.settings e.sustain_fits n e.lent.short k old news e.old_taken e.news_taken e.none_before b h in
    record { answered = m.answered; left = from_section g e.settings (last_score old news) (last_taken old news e.old_taken e.news_taken) k b (edits_from g old news b).left m.holds.holds m.stays }

-- no edit lies before section 0
none_before_0 : (n : ℕ) (old : List ℕ) (news : List (List ℕ)) → NoneBefore 0 n old news
none_before_0 n old [] = tt
none_before_0 n old (new ∷ rest) = ((λ p e l. omega arith), none_before_0 n new rest)

five_edits : (g : Settings) → settings_ok g ≡ true → T (fits binary64 g.adsr.sustain) → (old : List ℕ) (news : List (List ℕ)) → Taken old → AllTaken news → (n : ℕ) (r : BuffersOf n)
    → EditedWhole g old news n (edits_from g old news (left_in g old r).left)
five_edits g ok w old news one c n r =
    let s = last_score old news in
    let b = (left_in g old r).left in
    let came : b ≡ whole_of g old n = left_is g ok old one n r in
    let h : Holds g old n 0 b = rw came (record { sized = whole-sized g old n; holds = refl }) in
    let short : n ≤ most_samples = omega (arith, r.lent.short, r.long) in
    let m = all_edits g ok w n short 0 old news one c (none_before_0 n old news) b h in
    record { answered = m.answered; are_rendered = λ q. m.holds.holds ∙ sym (left_is g ok s (last_taken old news one c) n q) }

-- in what a render of the old score left
counts : (g : Settings) (old new : List ℕ) → Edit g old new → (n : ℕ) → n ≤ most_samples → (m : ℕ) → plan_of old new n ≡ Some m → CountIs g old new m n
counts g old new x n short m planned =
    let b = whole_of g old n in
    let long : samples_in b ≡ n = sound_length g old n in
    let lent : Lent b = sized-lent n b short (whole-sized g old n) in
    let r : BuffersOf (samples_in b) = record { buffers = b; lent = lent; long = refl } in
    let p = plan_says old new n m planned in
    let same : (left_in g old r).left ≡ b = left_is g x.settings old x.old_taken (samples_in b) r ∙ ap (whole_of g old) long in
    let made : Remade g old new m b (rerender_of g old new b) = rw (← p.section_is) at (demand_3_holds.re_rendered g old new x b lent p.change p.differs (omega (arith, long, p.heard)) r (ap (onward (p.change / section_size)) (sym same))) in
    let one = one_edit_lem g old new x n short 0 (λ q e l. omega arith) b (record { sized = whole-sized g old n; holds = refl }) in
    let count : Ok (count_for g old new (Some m) b) ≡ Ok (min (made.stop_section * section_size) (samples_in b) - m * section_size) = sym (rw planned at one.counted) ∙ made.to_the_stop.counted in
    record {
      stop_section = made.stop_section;
      stops = subst (λ (i : ℕ). StopsAt g old new m i made.stop_section) long made.stops;
      count-is = done_inj count ∙ ap (λ (i : ℕ). min (made.stop_section * section_size) i - m * section_size) long;
    }
  where
    done_inj : {i j : ℕ} → ◌≡◌ {A = Answer} (Ok i) (Ok j) → i ≡ j
    done_inj e = cc

pub any_edits : AnyEdits
any_edits = record { over_rubbish = edited; from_a_render = five_edits; counts = counts }
