-- What an accepted line says.
use Rattle.std.specs.Prelude.{List, ℕ, eqb}
use Rattle.meaning.specs.declared.Said.{Said}
use Rattle.meaning.specs.Frames.{bytes_of, line_kind, meant}

-- what a line of these characters says, where nothing is wrong with it
abbrev pub said_of : ℕ → List ℕ → Said
said_of line l = meant line (bytes_of l) (eqb (line_kind (bytes_of l)) 0)
