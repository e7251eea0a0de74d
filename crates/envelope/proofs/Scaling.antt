-- A lent part is scaled: one more value, a step within a stage, and Idle and Sustain. Assumes nothing.
use mathlib.Core.Path.{◌≡◌, refl, sym, subst, ap, ◌∙◌}
use mathlib.Core.Bool.{true, false, true≢false}
use mathlib.Core.List.{List, map, append-nil}
use Prim.Native.Nat.{ℕ, zero, suc, ◌+◌, ◌-◌, ◌<◌, ◌≤◌}
use native.Mathlib.Numerals.{add-one}
use native.Mathlib.Omega.{arith}
use native.Mathlib.Nat.{add-suc}
use lib.ListN.{length, get_or, set, drop, length-set}
use lib.Seq.{take-suc-set, take_all, get_or-set_other}
use lib.Ieee.{Float, nan}
use borrow.Rule.Slice.PartMut.{put_mid, mid_of}
use Rattle.std.proofs.lemmas.List.{ext_get_or, get_or-map, get_or-drop, length-map, length-drop, take_rest, drop_all}
use Rattle.runs.proofs.Listed.{listed-length, listed_at, listed_on, listed_same}
use Rattle.envelope.proofs.RunsOn.{envelope_runs_on}
use Rattle.runs.specs.Runs.{run, listed}
use Rattle.floats.specs.Double.{◌⊗◌}
use Rattle.envelope.specs.declared.Adsr.{Adsr}
use Rattle.envelope.specs.declared.Envelope.{Envelope}
use Rattle.envelope.specs.declared.EnvelopeStage.{EnvelopeStage}
use Rattle.envelope.specs.declared.EnvelopeStage.TheVariants.{Idle, Attack, Decay, Sustain, Release}
use Rattle.envelope.specs.Stages.{rule_of, is_moving, grown_of, step_of}
use Rattle.envelope.specs.Inner.{level_of, ends_at, next_in, ended_in, scaled_by, scaled_two, Reached}
use Rattle.envelope.specs.Running.{envelope_from}
use Rattle.envelope.specs.Scaled.{scaled_to, Scaled}

none_below : {n : ℕ} → n < 0 → ⊥
none_below l = omega arith

module _ (k : Adsr) (t : Float) (e : Envelope) where
  -- ---- before the end of a stage a step keeps the stage, and the time grows
  pub runs : (s : EnvelopeStage) (d : Envelope) → e.stage ≡ s → d ≡ next_in s k t e → ends_at s k d.level ≡ false → d ≡ step_of k t e
  unfolding step_of
  runs s d q m h = m ∙ go s (ap (λ (x : Envelope). ends_at s k x.level) (sym m) ∙ h) ∙ ap (λ (z : EnvelopeStage). grown_of t (rule_of z k e)) (sym q)
    where
      go : (s : EnvelopeStage) → ends_at s k (level_of s k e) ≡ false → next_in s k t e ≡ grown_of t (rule_of s k e)
      go Idle h = absurd (true≢false h)
      go Attack h = rw h refl
      go Decay h = rw h refl
      go Sustain h = absurd (true≢false h)
      go Release h = rw h refl

  -- ---- at the end of a stage, and in Idle and Sustain, a step is `ended_in`
  pub ends : (s : EnvelopeStage) (d : Envelope) → e.stage ≡ s → d ≡ next_in s k t e → ends_at s k d.level ≡ true → ended_in s k t e ≡ step_of k t e
  unfolding step_of
  ends s d q m h = go s (ap (λ (x : Envelope). ends_at s k x.level) (sym m) ∙ h) ∙ ap (λ (z : EnvelopeStage). grown_of t (rule_of z k e)) (sym q)
    where
      go : (s : EnvelopeStage) → ends_at s k (level_of s k e) ≡ true → ended_in s k t e ≡ grown_of t (rule_of s k e)
      go Idle h = refl
      go Attack h = rw h refl
      go Decay h = rw h refl
      go Sustain h = refl
      go Release h = rw h refl

  -- ---- in Idle and Sustain every step gives what the first one gave
  still : is_moving e.stage ≡ false → step_of k t (step_of k t e) ≡ step_of k t e
  unfolding step_of
  still h = go e.stage h
    where
      go : (s : EnvelopeStage) → is_moving s ≡ false → step_of k t (grown_of t (rule_of s k e)) ≡ grown_of t (rule_of s k e)
      go Idle h = refl
      go Attack h = absurd (true≢false h)
      go Decay h = absurd (true≢false h)
      go Sustain h = refl
      go Release h = absurd (true≢false h)

  pub stands : is_moving e.stage ≡ false → (n : ℕ) → 0 < n → step_of k t e ≡ envelope_from k t e n
  unfolding envelope_from run
  stands h zero l = absurd (none_below l)
  stands h (suc zero) l = refl
  stands h (suc (suc n)) l = sym (still h) ∙ ap (step_of k t) (stands h (suc n) (omega arith))

  module _ (velocity : Float) (xs : List Float) where
    -- ---- how many values are scaled
    pub reached-none : Reached k t e velocity xs xs e 0
    unfolding scaled_to envelope_from run listed
    reached-none = record { long = refl; within = omega arith; envelope = refl; first = refl; others = λ j h. refl }

    pub reached_more : (ys : List Float) (c d : Envelope) (level : Float) (i : ℕ) → i < length ys → d ≡ step_of k t c → level ≡ d.level → Reached k t e velocity xs ys c i
        → Reached k t e velocity xs (set ys i (get_or ys i nan ⊗ level ⊗ velocity)) d (i + 1)
    unfolding scaled_to envelope_from run listed
    reached_more ys c d level i h q l b =
        let next : d ≡ envelope_from k t e (suc i) = q ∙ ap (step_of k t) b.envelope in
        record {
          long = simp length-set b.long;
          within = omega (arith, b.long);
          envelope = rw (add-one i) next;
          first = rw (add-one i, take-suc-set ys i (get_or ys i nan ⊗ level ⊗ velocity) h, b.first, b.others i (omega arith), l, ap (λ (x : Envelope). x.level) next) refl;
          others = λ j g. get_or-set_other ys i j _ nan (λ q. omega arith) ∙ b.others j (omega arith);
        }

    pub reached-two : (ys : List Float) (c d₁ d₂ : Envelope) (i : ℕ) → i + 2 ≤ length ys → d₁ ≡ step_of k t c → d₂ ≡ step_of k t d₁ → Reached k t e velocity xs ys c i → Reached k t e velocity xs (scaled_two velocity ys i d₁.level d₂.level) d₂ (i + 2)
    unfolding scaled_two
    reached-two ys c d₁ d₂ i h p q b = subst (λ (j : ℕ). Reached k t e velocity xs (scaled_two velocity ys i d₁.level d₂.level) d₂ j) (omega arith) (reached_more (set ys i (get_or ys i nan ⊗ d₁.level ⊗ velocity)) d₁ d₂ d₂.level (i + 1) (simp length-set (omega arith)) q refl (reached_more ys c d₁ d₁.level i (omega arith) p refl b))

    -- four values, as twice two
    pub reached-four : (ys zs ws : List Float) (c d₁ d₂ d₃ d₄ : Envelope) (i : ℕ) → i + 4 ≤ length ys → d₁ ≡ step_of k t c → d₂ ≡ step_of k t d₁ → d₃ ≡ step_of k t d₂ → d₄ ≡ step_of k t d₃ → zs ≡ scaled_two velocity ys i d₁.level d₂.level
        → ws ≡ scaled_two velocity zs (i + 2) d₃.level d₄.level → Reached k t e velocity xs ys c i → Reached k t e velocity xs ws d₄ (i + 4)
    reached-four ys zs ws c d₁ d₂ d₃ d₄ i h p₁ p₂ p₃ p₄ z w b =
        let half : Reached k t e velocity xs zs d₂ (i + 2) = subst (λ (l : List Float). Reached k t e velocity xs l d₂ (i + 2)) (sym z) (reached-two ys c d₁ d₂ i (omega arith) p₁ p₂ b) in
        let whole : Reached k t e velocity xs ws d₄ (i + 2 + 2) = subst (λ (l : List Float). Reached k t e velocity xs l d₄ (i + 2 + 2)) (sym w) (reached-two zs d₂ d₃ d₄ (i + 2) (omega (arith, half.long, b.long)) p₃ p₄ half) in
        subst (λ (j : ℕ). Reached k t e velocity xs ws d₄ j) (omega arith) whole

    -- at the end of the part
    pub scaled_all : (ys : List Float) (c : Envelope) (i : ℕ) → length ys ≤ i → Reached k t e velocity xs ys c i → Scaled k t e velocity xs ys c
    scaled_all ys c i h b =
        let z : i ≡ length xs = omega (arith, b.long, b.within) in
        record { samples = sym (take_all i ys h) ∙ b.first ∙ ap (scaled_to k t e velocity xs) z; envelope = b.envelope ∙ ap (envelope_from k t e) z }

-- ---- in Idle and Sustain all that is left is scaled by one level
map-listed : (f : Float → Float) (zs : List Float) → map f zs ≡ listed (λ (n : ℕ). f (get_or zs n nan)) (length zs)
map-listed f zs =
    let g : ℕ → Float = λ n. f (get_or zs n nan) in
    ext_get_or nan (map f zs) (listed g (length zs)) (length-map zs f ∙ sym (listed-length g (length zs)))
    (λ n h. let l : n < length zs = subst (λ (m : ℕ). n < m) (length-map zs f) h in get_or-map f zs n nan nan l ∙ sym (listed_at g (length zs) n nan l))

module _ (k : Adsr) (t : Float) (e : Envelope) (velocity : Float) (xs ys : List Float) (c d : Envelope) (i : ℕ) where
  pub held_all : (zs : List Float) → is_moving c.stage ≡ false → i < length ys → Reached k t e velocity xs ys c i → d ≡ step_of k t c → zs ≡ map (scaled_by d.level velocity) (mid_of i (length ys - i) ys) → Scaled k t e velocity xs (put_mid i (length ys - i) ys zs) d
  unfolding scaled_to
  held_all zs h l b s z =
      let n = length ys - i in
      let at : ℕ → Float = λ j. get_or xs j nan ⊗ (envelope_from k t e (suc j)).level ⊗ velocity in
      let whole : length xs ≡ i + n = omega (arith, b.long) in
      let still : (j : ℕ) → d ≡ envelope_from k t e (i + suc j) = λ j.
      s ∙ stands k t c h (suc j) (omega arith) ∙ ap (λ (x : Envelope). envelope_from k t x (suc j)) b.envelope ∙ sym (envelope_runs_on k t e i (suc j)) in
      let f : Float → Float = scaled_by d.level velocity in
      let g : ℕ → Float = λ j. f (get_or (drop i ys) j nan) in
      let same : (j : ℕ) → j < n → g j ≡ at (i + j) = λ j m. rw (get_or-drop i ys j nan, b.others (i + j) (omega arith), ap (λ (x : Envelope). x.level) (still j), add-suc i j) refl in
      let rest : zs ≡ listed (λ (j : ℕ). at (i + j)) n = z ∙ ap (map f) (take_rest ys i) ∙ map-listed f (drop i ys) ∙ ap (listed g) (length-drop i ys) ∙ listed_same g (λ j. at (i + j)) n same in
      record {
        samples = rw (b.first, rest, drop_all n (drop i ys) (omega (arith, length-drop i ys)), append-nil, whole) (sym (listed_on at i n));
        envelope = still (length ys - suc i) ∙ ap (envelope_from k t e) (omega arith);
      }
