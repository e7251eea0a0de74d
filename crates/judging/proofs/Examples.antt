-- Sizes that fit and sizes that do not, computed. 02, R-3: "7 also when the summary has not one entry a section".
-- Assumes nothing.
use mathlib.Core.Path.{◌≡◌, refl}
use mathlib.Core.Bool.{Bool, true, false}
use mathlib.Core.List.{List, [], ◌∷◌}
use Rattle.judging.specs.Judging.{sizes_fit}

-- no samples; one; a whole section; one sample more; the most
abbrev pub fitting : List Bool
fitting = sizes_fit 0 0 0 0 ∷ sizes_fit 1 13 1 1 ∷ sizes_fit 4096 13 1 1 ∷ sizes_fit 4097 26 2 2 ∷ sizes_fit 16777216 53248 4096 4096 ∷ []

pub all_fit : fitting ≡ true ∷ true ∷ true ∷ true ∷ true ∷ []
all_fit = refl

-- of 4,097 samples two magnitudes and one number, one and two, three and two, none of either; of no sample one
-- magnitude, one number; a shelf of twelve words an entry; a sample too many
abbrev pub unfit : List Bool
unfit = sizes_fit 4097 26 2 1 ∷ sizes_fit 4097 26 1 2 ∷ sizes_fit 4097 26 3 2 ∷ sizes_fit 4097 26 0 0 ∷ sizes_fit 0 0 1 0 ∷ sizes_fit 0 0 0 1 ∷ sizes_fit 4097 24 2 2 ∷ sizes_fit 16777217 53261 4097 4097 ∷ []

pub none-fits : unfit ≡ false ∷ false ∷ false ∷ false ∷ false ∷ false ∷ false ∷ false ∷ []
none-fits = refl
