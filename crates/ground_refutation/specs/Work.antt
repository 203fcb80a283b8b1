-- How much work the demands of a queue are at most: a demand adds an instance of a clause, whose demands are for entries before its own.
use Rattle.std.specs.Prelude.{ℕ, ◌+◌, zero, suc, max, List, [], ◌∷◌, length}
use Rattle.me_terms.specs.Values.{ClauseValue}
use Rattle.me_terms.specs.LeafList.{Demand}

-- the number of literals of the longest clause
abbrev pub longest : List ClauseValue → ℕ
longest [] = 0
longest (c ∷ cs) = max (length c.literals) (longest cs)

-- the number n times
abbrev pub times : ℕ → ℕ → ℕ
times zero w = 0
times (suc n) w = w + times n w

-- what a demand for the entry at a position is, where an instance has at most b demands
abbrev pub work : ℕ → ℕ → ℕ
work b zero = 1
work b (suc k) = 1 + (work b k + times b (work b k))

-- what all demands of a list are
abbrev pub work_all : ℕ → List Demand → ℕ
work_all b [] = 0
work_all b (d ∷ ds) = work b d.0 + work_all b ds
