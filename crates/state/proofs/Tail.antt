-- What is made from a position on depends on the records from there on alone, and not on how many have acted before:
-- two scores that have the same records from position q on lead from two states that are the same but for the number of
-- records acted to the same samples, and to states that are the same but for that number. So a re-render may stop where
-- the state meets the stored one and the records that are left are the same (02, R-12). Assumes nothing.
use mathlib.Core.Path.{◌≡◌, refl, sym, ap, ◌∙◌}
use mathlib.Core.List.{List}
use Prim.Native.Nat.{ℕ, ◌+◌, ◌*◌, ◌-◌}
use native.Mathlib.Omega.{arith}
use lib.ListN.{length, get_or, length-drop}
use lib.Seq.{get_or-drop}
use Rattle.score.specs.Record.{count_of, byte_at, position_at, record_at}
use Rattle.score.specs.Below.{count_below, Sorted, Cut}
use Rattle.score.specs.Apart.{records_from}
use Rattle.score.proofs.Cuts.{count_cut}
use Rattle.state.specs.declared.Settings.{Settings}
use Rattle.state.specs.declared.State.{State}
use Rattle.state.specs.ButActed.{SameButActed}
use Rattle.state.specs.Heart.{state_from, samples_from}
use Rattle.state.proofs.ButActed.{state-same, samples-same}
use Rattle.state.proofs.Depends.{Between, equal_alike, state-between, samples-between}

module _ (s t : List ℕ) (os : Sorted s) (ot : Sorted t) (ws : length s ≡ count_of s * 10) (wt : length t ≡ count_of t * 10) (q : ℕ) (e : records_from s q ≡ records_from t q) where
  as_many : count_of s - count_below s q ≡ count_of t - count_below t q
  as_many =
      let ls : length (records_from s q) ≡ length s - count_below s q * 10 = length-drop (count_below s q * 10) s in
      let lt : length (records_from t q) ≡ length t - count_below t q * 10 = length-drop (count_below t q * 10) t in
      let l : length (records_from s q) ≡ length (records_from t q) = ap length e in
      omega (arith, (count_cut s os q).inside, (count_cut t ot q).inside)

  same_byte : (i j : ℕ) → byte_at s (count_below s q + i) j ≡ byte_at t (count_below t q + i) j
  same_byte i j =
      let f : (count_below s q + i) * 10 + j ≡ count_below s q * 10 + (i * 10 + j) = omega arith in
      let g : (count_below t q + i) * 10 + j ≡ count_below t q * 10 + (i * 10 + j) = omega arith in
      ap (λ (k : ℕ). get_or s k 0) f ∙ sym (get_or-drop (count_below s q * 10) s (i * 10 + j) 0) ∙ ap (λ (l : List ℕ). get_or l (i * 10 + j) 0) e
      ∙ get_or-drop (count_below t q * 10) t (i * 10 + j) 0 ∙ ap (λ (k : ℕ). get_or t k 0) (sym g)

  same_record_lem : (i : ℕ) → record_at s (count_below s q + i) ≡ record_at t (count_below t q + i)
  unfolding position_at
  same_record_lem i = rw (same_byte i 2, same_byte i 3, same_byte i 4, same_byte i 5, same_byte i 6, same_byte i 7, same_byte i 8) refl

  -- up to any sample m, the records below q do not matter and those from q on are the same
  pub tail_between : (m : ℕ) → Between s t q m (count_below s q) (count_below t q) (count_of s - count_below s q)
  tail_between m =
      let cs : Cut s q (count_below s q) = count_cut s os q in
      let ct : Cut t q (count_below t q) = count_cut t ot q in
      record {
        part_s = record { inside = omega (arith, cs.inside); lows = cs.lows; highs = λ i l u. absurd (omega (arith, cs.inside)) };
        part_t = record { inside = omega (arith, as_many, ct.inside); lows = ct.lows; highs = λ i l u. absurd (omega (arith, as_many, ct.inside)) };
        same = λ i l. equal_alike _ _ (same_record_lem i);
      }

  module _ (g : Settings) (v w : State) (same : SameButActed v w) where
    pub tail_states : (k : ℕ) → SameButActed (state_from g s q v k) (state_from g t q w k)
    tail_states k = rw (state-between g s t q (q + k) _ _ _ (tail_between (q + k)) v k (omega arith)) (state-same g t q v w same k)

    pub tail_samples : (k : ℕ) → samples_from g s q v k ≡ samples_from g t q w k
    tail_samples k = samples-between g s t q (q + k) _ _ _ (tail_between (q + k)) v k (omega arith) ∙ samples-same g t q v w same k
