-- What a render and a continuing call leave where they are done, and where they are refused. Assumes nothing.
use Rattle.std.specs.Prelude.{Err, Ok}
use mathlib.Core.Path.{◌≡◌, refl, sym, ap, ◌∙◌}
use mathlib.Core.Bool.{Bool, true, false, ◌&&◌}
use mathlib.Core.List.{List, []}
use mathlib.Core.Logic.{⊎_elim}
use Prim.Native.Nat.{ℕ, ◌+◌, ◌-◌, ◌≤◌}
use native.Mathlib.Nat.{sub-zero}
use native.Mathlib.Omega.{arith}
use lib.Dec.{leb}
use lib.ListN.{length}
use lib.Ieee.{Float}
use Rattle.sections.specs.Outcome.{Buffers, samples_in, room_in, Outcome, leaves}
use borrow.Author.Tests.{leb-true}
use Rattle.runs.specs.Runs.{first_passing}
use Rattle.runs.proofs.First.{first_passing_lem}
use Rattle.answers.specs.Order.{unless, first_of}
use Rattle.answers.specs.declared.Refusal.{Refusal}
use Rattle.answers.specs.declared.Refusal.TheVariants.{GivenState}
use Rattle.answers.proofs.Order.{first_append, leads_first, done_none, refused_leads, Decided, decided}
use Rattle.score.specs.Below.{is_count_below, Sorted, Cut}
use Rattle.score.proofs.Codec.{both}
use Rattle.score.proofs.Cuts.{lt_or_ge, parts_cut, parts-count}
use Rattle.state.specs.declared.Settings.{Settings}
use Rattle.state.specs.declared.State.{State}
use Rattle.state.specs.State.{fresh_of}
use Rattle.state.specs.Limits.{is_state}
use Rattle.state.specs.Heart.{state_from, samples_from, entries_from}
use Rattle.shelf.specs.Shelf.{entries_for, shelf_of}
use Rattle.state.proofs.RunsOn.{samples-length}
use Rattle.spans.specs.declared.Place.{Place}
use Rattle.spans.specs.Walk.{place_of, Played}
use Rattle.spans.proofs.Agrees.{kept, samples_agree}
use Rattle.sections.specs.declared.End.{End}
use Rattle.sections.specs.Sections.{made_between, stop_where, play_on_of}
use Rattle.sections.proofs.Room.{in_room}
use Rattle.sections.proofs.Made.{made-whole}
use Rattle.sections.proofs.Agrees.{made}
use Rattle.judging.specs.Judging.{refusals_of, part_fits}
use Rattle.judging.proofs.Refusals.{all_passed, passed-sorted}
use Rattle.render.specs.declared.Rendered.{Rendered}
use Rattle.render.specs.Calls.{says, made_of, render_of, PartOutcome, leaves_part, is_given, continue_refusals, made_part, kept_part, continue_of}

module _ (g : Settings) (s : List ℕ) (b : Buffers) where
  abbrev n : ℕ
  n = samples_in b

  abbrev refusals : List Refusal
  refusals = refusals_of g (room_in b) s

  pub render-refused : (why : Refusal) → first_of refusals Err (Ok n) ≡ Err why → leaves (says (Err why) (fresh_of 0)) b ≡ render_of g s b
  unfolding render_of
  render-refused why e = sym (leads_first why refusals _ (made_of g s n) (refused_leads refusals n why e))

  -- the list of refusals decides the answer, and the answer decides what is left
  pub render-decided : Decided (λ (o : Outcome Rendered). o.result.answer) refusals (λ (why : Refusal). leaves (says (Err why) (fresh_of 0)) b) (made_of g s n) n (render_of g s b)
  unfolding render_of
  render-decided = decided (λ (o : Outcome Rendered). o.result.answer) refusals _ (made_of g s n) n (λ why. refl) refl

  -- no record lies before sample 0
  at_zero : Cut s 0 0
  at_zero = record { inside = omega arith; lows = λ i l. omega arith; highs = λ i a b. omega arith }

  -- no section has the number n, so the stop is the end
  never_stops : (passes : ℕ → Bool) → stop_where (λ (k : ℕ). leb n k && passes k) 0 n ≡ n
  never_stops passes =
      let f = first_passing_lem (λ (k : ℕ). leb n k && passes k) (entries_for n - 1) 1 in
      ⊎_elim
      (λ l. absurd (let t : n ≤ first_passing (λ (k : ℕ). leb n k && passes k) (entries_for n - 1) 1 = leb-true _ _ (both (leb n _) (passes _) (f.here l)).0 in omega (arith, t, l)))
      (λ l. omega (arith, l))
      (lt_or_ge (first_passing (λ (k : ℕ). leb n k && passes k) (entries_for n - 1) 1) (1 + (entries_for n - 1)))

  pub render-done : (m : ℕ) → first_of refusals Err (Ok n) ≡ Ok m → (r : End) (c : Buffers) → leaves r c ≡ play_on_of g s 0 (place_of (fresh_of 0) 0) m b → leaves (says (Ok m) r.place.state) c ≡ render_of g s b
  unfolding render_of
  render-done m e r c x =
      let none : refusals ≡ [] = done_none refusals n m e in
      let k : n ≡ m = (let q : Ok n ≡ Ok m = rw none at e in cc) in
      let d = rw (← x) at (made g s (passed-sorted g (room_in b) s none) 0 0 (fresh_of 0) at_zero m b (all_passed g (room_in b) s none).sized) in
      let stop : r.sample ≡ n = d.stop_is ∙ rw (← k) (never_stops _) in
      let samples = samples_from g s 0 (fresh_of 0) n in
      let words = shelf_of (entries_from g s 0 (fresh_of 0) (entries_for n)) in
      let left : c ≡ made_between 0 n samples words b =
      d.left_is ∙ ap (λ (e : ℕ). made_between 0 e (samples_from g s 0 (fresh_of 0) (e - 0)) (shelf_of (entries_from g s 0 (fresh_of 0) (entries_for e - 0))) b) stop
      ∙ ap (λ (e : ℕ). made_between 0 n (samples_from g s 0 (fresh_of 0) e) (shelf_of (entries_from g s 0 (fresh_of 0) (entries_for n - 0))) b) (sub-zero n)
      ∙ ap (λ (e : ℕ). made_between 0 n samples (shelf_of (entries_from g s 0 (fresh_of 0) e)) b) (sub-zero (entries_for n)) in
      let v : r.place.state ≡ state_from g s 0 (fresh_of 0) n = rw (stop, sub-zero n) at d.state-is in
      rw (none, ← k, v)
      (ap (leaves (says (Ok n) (state_from g s 0 (fresh_of 0) n))) (left ∙ made-whole samples words b (in_room b (all_passed g (room_in b) s none).sized) (samples-length g s 0 (fresh_of 0) n)))

module _ (g : Settings) (s : List ℕ) (v : State) (p : ℕ) (part : List Float) where
  abbrev room : Bool
  room = part_fits p (length part)

  -- the outcome where 6, 7 and the score's faults are not given
  abbrev rest : PartOutcome
  rest = first_of (unless (is_given s p v) GivenState) (kept_part v part) (made_part g s v p (length part))

  in_turn : continue_of g s v p part ≡ first_of (refusals_of g room s) (kept_part v part) rest
  unfolding continue_of
  in_turn = first_append (refusals_of g room s) (unless (is_given s p v) GivenState) (kept_part v part) (made_part g s v p (length part))

  pub continue_decided : Decided (λ (o : PartOutcome). o.result.answer) (continue_refusals g s (is_given s p v) p (length part)) (kept_part v part) (made_part g s v p (length part)) (length part) (continue_of g s v p part)
  unfolding continue_of
  continue_decided = decided (λ (o : PartOutcome). o.result.answer) _ (kept_part v part) (made_part g s v p (length part)) (length part) (λ why. refl) refl

  module _ (n : ℕ) where
    pub continue_refused : (why : Refusal) → first_of (refusals_of g room s) Err (Ok n) ≡ Err why → kept_part v part why ≡ continue_of g s v p part
    continue_refused why e = sym (in_turn ∙ leads_first why (refusals_of g room s) (kept_part v part) rest (refused_leads (refusals_of g room s) n why e))

    pub continue_goes : (m : ℕ) → first_of (refusals_of g room s) Err (Ok n) ≡ Ok m → rest ≡ continue_of g s v p part
    continue_goes m e = sym (in_turn ∙ rw (done_none (refusals_of g room s) n m e) refl)

  -- in a sorted score two records tell whether as many acted as lie below p
  module _ (o : Sorted s) where
    given : is_state v && is_count_below s v.acted p ≡ is_given s p v
    given = rw (parts-count s o v.acted p) refl

    pub goes_refused : is_state v && is_count_below s v.acted p ≡ false → kept_part v part GivenState ≡ rest
    goes_refused e = rw (← given, e) refl

    pub goes_on : is_state v && is_count_below s v.acted p ≡ true → (r : Place) (ys : List Float) → Played g s p (place_of v v.acted) part ys r → leaves_part (says (Ok (length part)) r.state) ys ≡ rest
    goes_on e r ys x =
        let c : Cut s p v.acted = parts_cut s o v.acted p (both (is_state v) (is_count_below s v.acted p) e).1 in
        let w : r.state ≡ state_from g s p v (length part) = ap (λ (q : Place). q.state) x.place ∙ (kept g s o p v.acted v c (length part)).state-is in
        let y : ys ≡ samples_from g s p v (length part) = x.samples ∙ samples_agree g s o p v.acted v c (length part) in
        rw (← given, e, w, y) refl
