-- A part repeated. Assumes nothing.
use Rattle.std.specs.Prelude.{ℕ, zero, suc, List, [], ◌++◌}

unfoldable pub repeated : ℕ → List ℕ → List ℕ
repeated zero part = []
repeated (suc n) part = repeated n part ++ part
