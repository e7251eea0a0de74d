-- A shelf that a render left is never refused, nor is a state that a render has (both are called honest).
-- 01, "What a call says": "8 | start entry is no state, or its records acted differ from the new score's records below
-- its position"; "10 | continuing: the given state fails the shelf's test, or the score's records below its position
-- differ in number from those acted".
-- Start from the fresh state at sample 0, or from any state that passes the test at a multiple of 64 (so at the start
-- of any section) with the right number of records acted. Then the state before each later sample passes the test, has
-- as many records acted as the score has below that sample, and its words are read as that state. So is every entry
-- that a render leaves. The sustain is a value of an f64, as every f64 of the code is. Assumes nothing.
use Rattle.std.specs.Prelude.{Ok, Some}
use mathlib.Core.Path.{◌≡◌, refl, ap, sym, ◌∙◌}
use mathlib.Core.Bool.{true}
use mathlib.Core.List.{List}
use Prim.Native.Nat.{ℕ, ◌+◌, ◌*◌, ◌%◌, ◌≤◌, ◌<◌}
use native.Mathlib.Nat.{zero-add}
use native.Mathlib.Omega.{arith}
use borrow.Author.Tests.{eq-eqb}
use lib.Dec.{T}
use lib.ListN.{take, drop}
use lib.Ieee.{binary64, fits}
use Rattle.score.specs.Record.{count_of}
use Rattle.score.specs.Score.{verdict_of}
use Rattle.score.specs.Below.{count_below}
use Rattle.score.proofs.Cuts.{accepted-few}
use Rattle.state.specs.declared.Settings.{Settings}
use Rattle.state.specs.declared.State.{State}
use Rattle.state.specs.Settings.{settings_ok}
use Rattle.state.specs.State.{fresh_of}
use Rattle.state.specs.Limits.{is_state}
use Rattle.state.specs.Heart.{state_from, entries_from}
use Rattle.state.proofs.Fits.{fresh-fits, state-fits}
use Rattle.state.proofs.Arrays.{state-sixteen}
use Rattle.state.proofs.Acted.{none_below-zero, acted_counts, acted_few}
use Rattle.state.proofs.Entries.{entries-length, entry_at_lem}
use Rattle.state.proofs.Limits.{state_in, in_state, fresh-is_state}
use Rattle.state.proofs.Stays.{limits_kept}
use Rattle.shelf.specs.Shelf.{entry_words, section_size, entries_for, entry_of, is_entry, decoded_of, shelf_of}
use Rattle.shelf.proofs.There.{Fitting, encode-decode, decoded-there}
use Rattle.shelf.proofs.Whole.{entry_words_lem}
use Rattle.sections.specs.Outcome.{Buffers, samples_in, room_in}
use Rattle.judging.specs.Judging.{Passed}
use Rattle.judging.proofs.Refusals.{all_passed}
use Rattle.render.specs.Calls.{render_of, is_given}
use Rattle.render.proofs.Outcomes.{render-decided}

-- ---- through every step the floats of a state are values of an f64, and its two arrays have 16 places
pub fresh_fitting : (acted : ℕ) → Fitting (fresh_of acted)
fresh_fitting acted =
    let f = fresh-fits acted in
    record { phase-fits = f.phase-fits; envelope-fits = f.envelope-held; frequency-fits = f.frequency-fits; velocity-fits = f.velocity-fits; notes_long = refl; velocities_long = refl; lfo-fits = f.lfo-fits }

pub fitting_kept : (g : Settings) (s : List ℕ) (n : ℕ) (v : State) → T (fits binary64 g.adsr.sustain) → Fitting v → (k : ℕ) → Fitting (state_from g s n v k)
fitting_kept g s n v w f k =
    let x = state-fits g s n v w (record { phase-fits = f.phase-fits; frequency-fits = f.frequency-fits; velocity-fits = f.velocity-fits; envelope-held = f.envelope-fits; lfo-fits = f.lfo-fits }) k in
    let y = state-sixteen g s n v (record { notes_long = f.notes_long; velocities_long = f.velocities_long }) k in
    record { phase-fits = x.phase-fits; envelope-fits = x.envelope-held; frequency-fits = x.frequency-fits; velocity-fits = x.velocity-fits; notes_long = y.notes_long; velocities_long = y.velocities_long; lfo-fits = x.lfo-fits }

-- the words ws are those of the state v and are read as v, with as many records acted as s has below n
pub record HonestEntry (s : List ℕ) (n : ℕ) (v : State) (ws : List ℕ) : Type 0 where
  pub words_are : ws ≡ entry_of v
  pub read_as : decoded_of ws ≡ Some v
  pub acted_is : v.acted ≡ count_below s n

module _ (g : Settings) (ok : settings_ok g ≡ true) (w : T (fits binary64 g.adsr.sustain)) (s : List ℕ) (m : ℕ) (a : verdict_of s ≡ Ok m) where
  few : count_of s ≤ 4096
  few = accepted-few s m a

  -- ---- from a state v that passes the test before sample n
  module _ (n : ℕ) (at : n % 64 ≡ 0) (v : State) (i : is_state v ≡ true) (c : v.acted ≡ count_below s n) where
    pub from-is_state : (k : ℕ) → is_state (state_from g s n v k) ≡ true
    from-is_state k = in_state (state_from g s n v k) (limits_kept g ok w s m a n at v (state_in v i) k) (omega (arith, acted_few g s few n v c k))

    -- so a continuing call accepts the state
    pub from-is_given : (k : ℕ) → is_given s (n + k) (state_from g s n v k) ≡ true
    from-is_given k = rw (from-is_state k, eq-eqb (state_from g s n v k).acted (count_below s (n + k)) (acted_counts g s few n v c k)) refl

    -- and the state's words are read as that state
    pub honest-from : Fitting v → (k : ℕ) → decoded_of (entry_of (state_from g s n v k)) ≡ Some (state_from g s n v k)
    honest-from f k = encode-decode (state_from g s n v k) (fitting_kept g s n v w f k) (from-is_state k)

    pub from-is_entry : Fitting v → (k : ℕ) → is_entry (entry_of (state_from g s n v k)) ≡ true
    from-is_entry f k = (decoded-there _ _ (honest-from f k)).0

  -- entry j of the k entries from section b on
  pub entries-honest : (b : ℕ) (v : State) → is_state v ≡ true → v.acted ≡ count_below s (b * section_size) → Fitting v → (k j : ℕ) → j < k
      → HonestEntry s ((b + j) * section_size) (state_from g s (b * section_size) v (j * section_size)) (take entry_words (drop (j * entry_words) (shelf_of (entries_from g s b v k))))
  entries-honest b v i c f k j h =
      let n : (b + j) * section_size ≡ b * section_size + j * section_size = omega arith in
      let e = entry_words_lem (entries_from g s b v k) j v (omega (arith, entries-length g s b v k)) ∙ ap entry_of (entry_at_lem g s b v k j v h) in
      record {
        words_are = e;
        read_as = ap (λ (ws : List ℕ). decoded_of ws) e ∙ honest-from (b * section_size) (omega arith) v i c f (j * section_size);
        acted_is = rw n (acted_counts g s few (b * section_size) v c (j * section_size));
      }

  -- ---- from the fresh state before sample 0
  none_acted : (fresh_of 0).acted ≡ count_below s 0
  none_acted = sym (none_below-zero s)

  pub honest-is_state : (k : ℕ) → is_state (state_from g s 0 (fresh_of 0) k) ≡ true
  honest-is_state k = from-is_state 0 refl (fresh_of 0) fresh-is_state none_acted k

  pub honest-is_given : (k : ℕ) → is_given s k (state_from g s 0 (fresh_of 0) k) ≡ true
  honest-is_given k = rw (zero-add k) at (from-is_given 0 refl (fresh_of 0) fresh-is_state none_acted k)

  pub honest : (k : ℕ) → decoded_of (entry_of (state_from g s 0 (fresh_of 0) k)) ≡ Some (state_from g s 0 (fresh_of 0) k)
  honest k = honest-from 0 refl (fresh_of 0) fresh-is_state none_acted (fresh_fitting 0) k

  pub honest-is_entry : (k : ℕ) → is_entry (entry_of (state_from g s 0 (fresh_of 0) k)) ≡ true
  honest-is_entry k = from-is_entry 0 refl (fresh_of 0) fresh-is_state none_acted (fresh_fitting 0) k

  pub fresh-entries-honest : (k j : ℕ) → j < k → HonestEntry s (j * section_size) (state_from g s 0 (fresh_of 0) (j * section_size)) (take entry_words (drop (j * entry_words) (shelf_of (entries_from g s 0 (fresh_of 0) k))))
  fresh-entries-honest k j h = rw (zero-add j) at (entries-honest 0 (fresh_of 0) fresh-is_state none_acted (fresh_fitting 0) k j h)

-- ---- the shelf that a render leaves
module _ (g : Settings) (s : List ℕ) (b : Buffers) where
  -- what is true of a render that is done
  pub render-passed : (n : ℕ) → (render_of g s b).result.answer ≡ Ok n → Passed g (room_in b) s
  render-passed n d = all_passed g (room_in b) s ((render-decided g s b).done n d)

  -- entry i, of the entries of n samples
  pub render-honest : T (fits binary64 g.adsr.sustain) → (n : ℕ) → (render_of g s b).result.answer ≡ Ok n → (i : ℕ) → i < entries_for n
      → HonestEntry s (i * section_size) (state_from g s 0 (fresh_of 0) (i * section_size)) (take entry_words (drop (i * entry_words) (render_of g s b).left.stored))
  render-honest w n d i h =
      let p = render-passed n d in
      let c = render-decided g s b in
      let many : i < entries_for (samples_in b) = rw (c.counts n d) h in
      rw (c.makes n d) (fresh-entries-honest g p.settings w s (count_of s) p.accepted (entries_for (samples_in b)) i many)
