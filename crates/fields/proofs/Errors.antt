-- The errors of results. Assumes nothing.
use Rattle.std.proofs.Common.{◌≡◌, Ok, Err, Result, refl}
use Rattle.std.specs.Result.{MatchResult, IsErrAnd}

-- the error that `map_err` makes of an error
pub err_from_map_err : {X E F : Type 0} (P : E → F → Type 0) (r : Result X E) (s : Result X F) (y : F)
    → MatchResult r (λ x. s ≡ Ok x) (λ d. IsErrAnd s (P d)) → s ≡ Err y → (d : E) × (r ≡ Err d) × P d y
err_from_map_err P (Ok x) s y m e = absurd (cc)
err_from_map_err P (Err d) s y m e = (d, refl, rw e at m)
