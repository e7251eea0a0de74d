-- Laws of a list of refusals. A refusal counts only where none before it is in the list; a call that is done has an
-- empty list; and a refusal is given exactly when its test fails and no refusal before it is in the list.
-- Assumes nothing.
use Rattle.std.specs.Prelude.{Err, Ok}
use mathlib.Core.Path.{◌≡◌, refl, ap, ◌∙◌}
use mathlib.Core.Bool.{Bool, true, false}
use mathlib.Core.List.{List, [], ◌∷◌, ◌++◌, map}
use mathlib.Core.Logic.{◌⊎◌, inl, inr}
use Prim.Native.Nat.{ℕ}
use native.Mathlib.Omega.{arith}
use lib.Dec.{T}
use Rattle.answers.specs.Order.{unless, first_of}
use Rattle.answers.specs.Answer.{Answer}
use Rattle.answers.specs.declared.Refusal.{Refusal}

clash : ◌≡◌ {A = ℕ} 0 1 → ⊥
clash h = omega arith

-- ---- the outcome of a list
-- ys counts only where xs is empty
pub first_append : {A R : Type 0} (xs ys : List A) (f : A → R) (d : R) → first_of (xs ++ ys) f d ≡ first_of xs f (first_of ys f d)
first_append [] ys f d = refl
first_append (x ∷ xs) ys f d = refl

-- a function h of the outcome is h of the outcome for each refusal, and h of `done`
pub first-through : {A R S : Type 0} (h : R → S) (xs : List A) (f : A → R) (d : R) → h (first_of xs f d) ≡ first_of xs (λ why. h (f why)) (h d)
first-through h [] f d = refl
first-through h (x ∷ xs) f d = refl

-- refusals mapped by h: the outcome for h x counts as the outcome for x
pub first-map : {A B R : Type 0} (h : A → B) (xs : List A) (f : B → R) (d : R) → first_of (map h xs) f d ≡ first_of xs (λ x. f (h x)) d
first-map h [] f d = refl
first-map h (x ∷ xs) f d = refl

-- ---- no refusal: the list is empty, so its tests pass
pub passed : {A : Type 0} (t : Bool) (why : A) → unless t why ≡ [] → t ≡ true
passed true why e = refl
passed false why e = absurd (clash (cc))

-- an empty list: the test passes, as the type `T t`
pub held : {A : Type 0} (t : Bool) (why : A) → unless t why ≡ [] → T t
held true why e = tt
held false why e = absurd (clash (cc))

pub both-held : {A : Type 0} (t u : Bool) (why then : A) → unless t why ++ unless u then ≡ [] → T t × T u
both-held true u why then e = (tt, held u then e)
both-held false u why then e = absurd (clash (cc))

pub none_both : {A : Type 0} (xs ys : List A) → xs ++ ys ≡ [] → (xs ≡ []) × (ys ≡ [])
none_both [] ys e = (refl, e)
none_both (x ∷ xs) ys e = absurd (clash (cc))

pub none-map : {A B : Type 0} (h : A → B) (xs : List A) → map h xs ≡ [] → xs ≡ []
none-map h [] e = refl
none-map h (x ∷ xs) e = absurd (clash (cc))

-- ---- the first refusal
-- `why` is the first refusal in the list
abbrev pub Leads : {A : Type 0} → A → List A → Type 0
Leads why [] = ⊥
Leads why (x ∷ xs) = x ≡ why

-- the first refusal in the list decides the outcome
pub leads_first : {A R : Type 0} (why : A) (xs : List A) (f : A → R) (d : R) → Leads why xs → first_of xs f d ≡ f why
leads_first why [] f d h = absurd h
leads_first why (x ∷ xs) f d h = ap f h

-- a list has a first refusal, or is empty
pub leads_or_none : {A : Type 0} (xs : List A) → ((why : A) × Leads why xs) ⊎ (xs ≡ [])
leads_or_none [] = inr refl
leads_or_none (x ∷ xs) = inl (x, refl)

-- P holds for the first refusal, or for `done` where the list is empty: P holds for the outcome
pub first_holds : {A R : Type 0} (P : R → Type 0) (xs : List A) (f : A → R) (d : R) → ((why : A) → Leads why xs → P (f why)) → (xs ≡ [] → P d) → P (first_of xs f d)
first_holds P [] f d a b = b refl
first_holds P (x ∷ xs) f d a b = a x refl

-- P holds for every refusal, and for `done` where the list is empty: P holds for the outcome
pub first_keeps : {A R : Type 0} (xs : List A) (f : A → R) (d : R) (P : R → Type 0) → ((why : A) → P (f why)) → (xs ≡ [] → P d) → P (first_of xs f d)
first_keeps xs f d P h k = first_holds P xs f d (λ why l. h why) k

-- the outcome's answer is done: the list is empty
pub none-refused : {R : Type 0} (xs : List Refusal) (f : Refusal → R) (d : R) (answer : R → Answer) (n : ℕ) → ((why : Refusal) → answer (f why) ≡ Err why) → answer (first_of xs f d) ≡ Ok n → xs ≡ []
none-refused [] f d answer n h e = refl
none-refused (why ∷ later) f d answer n h e = absurd (clash (cc (h why)))

-- ---- the answer of a call: refused, or done with a count
module _ (xs : List Refusal) (n : ℕ) where
  pub done_none : (m : ℕ) → first_of xs Err (Ok n) ≡ Ok m → xs ≡ []
  done_none m e = go xs e
    where
      go : (xs : List Refusal) → first_of xs Err (Ok n) ≡ Ok m → xs ≡ []
      go [] e = refl
      go (x ∷ xs) e = absurd (clash (cc))

  pub refused_leads : (why : Refusal) → first_of xs Err (Ok n) ≡ Err why → Leads why xs
  refused_leads why e = go xs e
    where
      go : (xs : List Refusal) → first_of xs Err (Ok n) ≡ Err why → Leads why xs
      go [] e = absurd (clash (cc))
      go (x ∷ xs) e = cc

-- ---- a call: its list decides its answer, and its answer decides what it leaves, each in both directions
pub record Decided {R : Type 0} (says : R → Answer) (refusals : List Refusal) (kept : Refusal → R) (made : R) (n : ℕ) (o : R) : Type 0 where
  pub refused : (why : Refusal) → says o ≡ Err why → Leads why refusals
  pub is-refused : (why : Refusal) → Leads why refusals → says o ≡ Err why
  pub keeps : (why : Refusal) → says o ≡ Err why → o ≡ kept why
  pub done : (m : ℕ) → says o ≡ Ok m → refusals ≡ []
  pub is-done : refusals ≡ [] → says o ≡ Ok n
  pub makes : (m : ℕ) → says o ≡ Ok m → o ≡ made
  pub counts : (m : ℕ) → says o ≡ Ok m → n ≡ m

-- the outcome is `kept` of the first refusal, or else `made`, whose answer is done with the count n: it is `Decided`
pub decided : {R : Type 0} (says : R → Answer) (refusals : List Refusal) (kept : Refusal → R) (made : R) (n : ℕ) → ((why : Refusal) → says (kept why) ≡ Err why) → says made ≡ Ok n
    → Decided says refusals kept made n (first_of refusals kept made)
decided says refusals kept made n a b = go refusals
  where
    go : (xs : List Refusal) → Decided says xs kept made n (first_of xs kept made)
    go [] =
        record {
          refused = λ why e. absurd (clash (cc));
          is-refused = λ why h. absurd h;
          keeps = λ why e. absurd (clash (cc));
          done = λ m e. refl;
          is-done = λ e. b;
          makes = λ m e. refl;
          counts = λ m e. cc;
        }
    go (x ∷ xs) =
        let said = a x in
        record {
          refused = λ why e. cc;
          is-refused = λ why h. said ∙ ap Err h;
          keeps = λ why e. (let same : x ≡ why = cc in ap kept same);
          done = λ m e. absurd (clash (cc));
          is-done = λ e. absurd (clash (cc));
          makes = λ m e. absurd (clash (cc));
          counts = λ m e. absurd (clash (cc));
        }

-- ---- the first refusal of two lists joined, of `unless` and of a mapped list
pub leads_append : {A : Type 0} (why : A) (xs ys : List A) → Leads why xs → Leads why (xs ++ ys)
leads_append why [] ys h = absurd h
leads_append why (x ∷ xs) ys h = h

pub leads_after : {A : Type 0} (why : A) (xs ys : List A) → xs ≡ [] → Leads why ys → Leads why (xs ++ ys)
leads_after why xs ys e h = rw e h

pub leads_parts : {A : Type 0} (why : A) (xs ys : List A) → Leads why (xs ++ ys) → Leads why xs ⊎ ((xs ≡ []) × Leads why ys)
leads_parts why [] ys h = inr (refl, h)
leads_parts why (x ∷ xs) ys h = inl h

pub leads_unless : {A : Type 0} (why : A) (t : Bool) (x : A) → Leads why (unless t x) → (t ≡ false) × (x ≡ why)
leads_unless why true x h = absurd h
leads_unless why false x h = (refl, h)

pub leads_map : {A B : Type 0} (f : A → B) (why : B) (xs : List A) → Leads why (map f xs) → (x : A) × Leads x xs × (f x ≡ why)
leads_map f why [] h = absurd h
leads_map f why (x ∷ xs) h = (x, refl, h)

pub map_leads : {A B : Type 0} (f : A → B) (x : A) (xs : List A) → Leads x xs → Leads (f x) (map f xs)
map_leads f x [] h = absurd h
map_leads f x (y ∷ xs) h = ap f h
