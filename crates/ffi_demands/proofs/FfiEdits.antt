-- The claim of specs/WordsEdits.antt: the edits in words are the edits of `demands`, each answer packed; number 0 in
-- every word shows that the settings are known and in their domain and every score is accepted. Assumes nothing.
use Rattle.std.specs.Prelude.{Ok, Option, Some}
use mathlib.Core.Path.{◌≡◌, refl, sym, ap, subst, ◌∙◌}
use mathlib.Core.Bool.{true}
use mathlib.Core.List.{List, [], ◌∷◌, map}
use Prim.Native.Nat.{ℕ}
use lib.Dec.{T}
use lib.Ieee.{binary64, fits}
use Rattle.sections.specs.Outcome.{Buffers, samples_in, room_in, Lent, onward, Outcome, leaves}
use Rattle.render.specs.declared.Rendered.{Rendered}
use Rattle.answers.specs.Answer.{Answer}
use Rattle.answers.proofs.Order.{none_both}
use Rattle.score.specs.Record.{count_of}
use Rattle.state.specs.declared.Settings.{Settings}
use Rattle.state.specs.Settings.{settings_ok}
use Rattle.render.specs.Calls.{made_of, render_of}
use Rattle.rerender.specs.Rerender.{plan_of, count_for, start_refusals, rerender_of}
use Rattle.rerender.proofs.Cases.{checks, all_checked, rerender-decided}
use Rattle.demands.specs.Demand3.{Taken, BuffersOf}
use Rattle.demands.specs.Edits.{and_over, edits_from, last_score, all_counted, AllTaken, Editing}
use Rattle.demands.proofs.Whole.{rendered}
use Rattle.demands.proofs.Edits.{last_taken, any_edits}
use Rattle.ffi.specs.declared.Asked.{Asked}
use Rattle.ffi.specs.Packed.{packed_of}
use Rattle.ffi.specs.Ffi as desk
use Rattle.ffi.specs.Ffi.{choice_of, render_for, rerendered}
use Rattle.ffi_demands.specs.WordsChain.{AllZero}
use Rattle.ffi_demands.specs.WordsEdits.{words_edits_from, words_edits, FfiEditing, FfiEdited, LastFfiRender, WordsAnyEdits}
use Rattle.ffi_demands.proofs.Zero.{zero-done, done-zero}
use Rattle.ffi_demands.proofs.Codes.{sustain_fits}
use Rattle.ffi_demands.proofs.FfiDemand3.{zero_good, desk_left, desk_from}

-- ---- the edits of `demands`, each answer packed
abbrev pub packed_all : Outcome (List Answer) → Outcome (List ℕ)
packed_all o = leaves (map packed_of o.result) o.left

pub edits_are : (a : Asked) (g : Settings) → choice_of a ≡ Some g → (news : List (List ℕ)) (old : List ℕ) (b : Buffers) → words_edits_from a old news b ≡ packed_all (edits_from g old news b)
unfolding words_edits_from edits_from
edits_are a g is [] old b = refl
edits_are a g is (new ∷ rest) old b = let r = rerender_of g old new b in rw is (ap (and_over (rerendered r)) (edits_are a g is rest new r.left))

-- a re-render that is done had an accepted new score
done-taken : (g : Settings) (old new : List ℕ) (b : Buffers) (n : ℕ) → (rerender_of g old new b).result ≡ Ok n → Taken new
done-taken g old new b n d =
    let none = (rerender-decided g old new b).done n d in
    let c = all_checked g old new (room_in b) (none_both (checks g old new (room_in b)) (start_refusals new (plan_of old new (samples_in b)) b.stored) none).0 in
    record { records = count_of new; accepted = c.new-accepted }

zero-taken : (g : Settings) (news : List (List ℕ)) (old : List ℕ) (b : Buffers) → AllZero (map packed_of (edits_from g old news b).result) → AllTaken news
unfolding edits_from
zero-taken g [] old b z = tt
zero-taken g (new ∷ rest) old b z =
    let r = rerender_of g old new b in
    let d = zero-done r.result z.0 in
    (done-taken g old new b d.0 d.1, zero-taken g rest new r.left z.1)

words-taken : (a : Asked) (g : Settings) → choice_of a ≡ Some g → (news : List (List ℕ)) (old : List ℕ) (b : Buffers) → AllZero (words_edits_from a old news b).result → AllTaken news
words-taken a g is news old b z = zero-taken g news old b (subst (λ (o : Outcome (List ℕ)). AllZero o.result) (edits_are a g is news old b) z)

pub counted_zeros : (g : Settings) (n : ℕ) (news : List (List ℕ)) (old : List ℕ) → AllZero (map packed_of (all_counted g old news n))
unfolding all_counted
counted_zeros g n [] old = tt
counted_zeros g n (new ∷ rest) old = (done-zero (count_for g old new (plan_of old new n) (made_of g old n).left), counted_zeros g n rest new)

-- ---- over rubbish
module _ (a : Asked) (old : List ℕ) (news : List (List ℕ)) (m : ℕ) (b : Buffers) (e : FfiEditing a old news m b) where
  abbrev calls : Outcome (List ℕ)
  calls = words_edits_from a old news b

  abbrev r : BuffersOf (samples_in b)
  r = e.honest.buffers

  edited : AllTaken news → FfiEdited a old news m b calls
  edited c =
      let q = zero_good a old r.buffers e.zero in
      let g = q.settings in
      let is = q.known in
      let h : Editing g old news m b =
      record {
        settings = q.in_domain;
        sustain_fits = sustain_fits a e.sustain_fits g is;
        old_taken = q.taken;
        news_taken = c;
        lent = e.lent;
        honest = record { buffers = r; were_left = e.honest.were_left ∙ ap (onward m) (desk_left a g is old r) };
        none_before = e.none_before;
      } in
      let d = any_edits.over_rubbish g old news m b h in
      rw (edits_are a g is news old b)
      (record { settings = g; known = is; result = ap (map packed_of) d.answered; left = desk_from a g is (last_score old news) m b (edits_from g old news b).left d.left })

  zeros : AllTaken news → AllZero calls.result
  zeros c = let d = edited c in subst AllZero (sym d.result) (counted_zeros d.settings (samples_in b) news old)

  edited-zero : AllZero calls.result → FfiEdited a old news m b calls
  edited-zero z = let q = zero_good a old r.buffers e.zero in edited (words-taken a q.settings q.known news old b z)

-- ---- after a gav_render
module _ (a : Asked) (sus : T (fits binary64 a.sustain)) (first : List ℕ) (news : List (List ℕ)) (b : Buffers) where
  abbrev edits : Outcome (List ℕ)
  edits = words_edits a first news b

  abbrev n : ℕ
  n = samples_in b

  module _ (g : Settings) (is : choice_of a ≡ Some g) (ok : settings_ok g ≡ true) (fit : Lent b) (one : Taken first) (c : AllTaken news) where
    abbrev begun : Outcome Rendered
    begun = render_of g first b

    all_packed : edits ≡ and_over (desk.rendered begun) (packed_all (edits_from g first news begun.left))
    all_packed = rw is (ap (and_over (desk.rendered begun)) (edits_are a g is news first begun.left))

    left : (r : BuffersOf n) → LastFfiRender a first news n r.buffers edits
    left r =
        let s = last_score first news in
        let own = sustain_fits a sus g is in
        let d = any_edits.from_a_render g ok own first news one c n (record { buffers = b; lent = fit; long = refl }) in
        let last = ap (λ (x : Option Settings). render_for x s r.buffers) is ∙ ap desk.rendered (rendered g ok s (last_taken first news one c) r.buffers r.lent) in
        record {
          settings = g;
          known = is;
          result =
              ap (λ (o : Outcome (List ℕ)). o.result) all_packed
              ∙ ap (λ (o : Outcome Rendered). packed_of o.result.answer ∷ map packed_of (edits_from g first news begun.left).result) (rendered g ok first one b fit)
              ∙ ap (λ (q : List Answer). packed_of (Ok n) ∷ map packed_of q) d.answered;
          done = ap (λ (o : Outcome ℕ). o.result) last ∙ ap (λ (i : ℕ). packed_of (Ok i)) r.long;
          left = ap (λ (o : Outcome (List ℕ)). o.left) all_packed ∙ d.are_rendered r ∙ sym (desk_left a g is s r);
        }

  pub desk_edits : AllZero edits.result → (r : BuffersOf n) → LastFfiRender a first news n r.buffers edits
  desk_edits z r =
      let q = zero_good a first b z.0 in
      let c = render_for (choice_of a) first b in
      left q.settings q.known q.in_domain q.lent q.taken (words-taken a q.settings q.known news first c.left z.1) r

  pub desk_edits_done : (g : Settings) → choice_of a ≡ Some g → settings_ok g ≡ true → Lent b → Taken first → AllTaken news → AllZero edits.result
  desk_edits_done g is ok fit one c =
      let d = left g is ok fit one c (record { buffers = b; lent = fit; long = refl }) in
      subst AllZero (sym d.result) (done-zero n, counted_zeros d.settings n news first)

-- ---- the claim
pub words_any_edits : WordsAnyEdits
words_any_edits = record { over_rubbish = edited-zero; over_rubbish_zero = zeros; from_a_render = desk_edits; from_a_render-zero = desk_edits_done }
