-- Samples of the order of links: their costs (`cost-samples`), and each two of them compared (`earlier-samples`); plans in two parts (`parts-samples`). A plan for
-- samples elsewhere (`worse_reading`).
use Rattle.std.specs.Prelude.{ℕ, ◌≡◌, refl, Bool, true, false, List, [], ◌∷◌, map}
use Rattle.plan.specs.Links.{Plan}
use Rattle.plan.specs.Refusal.{ascends, in_order, link_verdict, links_refusal, plan_refusal}
use Rattle.plan.specs.Weights.{cost, earlier}

-- three links 0-1, 0-2 and 1-2 with readings 3 and 3, 0 and 5, 4 and 0: in the order 0, 2, 1, and by their sums 2, 1, 0 (samples/worse-reading.plan)
abbrev pub worse_reading : Plan
worse_reading = 3 ∷ 3 ∷ 0 ∷ 1 ∷ 3 ∷ 3 ∷ 0 ∷ 2 ∷ 0 ∷ 5 ∷ 1 ∷ 2 ∷ 4 ∷ 0 ∷ []

-- five links with readings 3 and 3, 0 and 5, 4 and 1, 4 and 0, 0 and 4
abbrev five : Plan
five =
    6 ∷ 5
    ∷ 0 ∷ 1 ∷ 3 ∷ 3
    ∷ 0 ∷ 2 ∷ 0 ∷ 5
    ∷ 0 ∷ 3 ∷ 4 ∷ 1
    ∷ 0 ∷ 4 ∷ 4 ∷ 0
    ∷ 0 ∷ 5 ∷ 0 ∷ 4
    ∷ []

-- readings up to the largest: 2000 and 2000, 2000 and 1999, 300 and 2000, 1999 and 1999
abbrev large : Plan
large =
    5 ∷ 4
    ∷ 0 ∷ 1 ∷ 2000 ∷ 2000
    ∷ 0 ∷ 2 ∷ 2000 ∷ 1999
    ∷ 0 ∷ 3 ∷ 300 ∷ 2000
    ∷ 0 ∷ 4 ∷ 1999 ∷ 1999
    ∷ []

pub cost-samples :
    map (cost five) (0 ∷ 1 ∷ 2 ∷ 3 ∷ 4 ∷ []) ∷ map (cost large) (0 ∷ 1 ∷ 2 ∷ 3 ∷ []) ∷ []
    ≡ (3 ∷ 5 ∷ 4 ∷ 4 ∷ 4 ∷ []) ∷ (2000 ∷ 2000 ∷ 2000 ∷ 1999 ∷ []) ∷ []
unfolding cost
cost-samples = refl

-- a row for each link: whether it is earlier than each of them
abbrev compared : Plan → List ℕ → List (List Bool)
compared p links = map (λ a. map (earlier p a) links) links

-- From the earliest on. Of the five: 0 by its cost, though its sum is the largest; 3 and 4 before 2 by the sum; 3 before 4 by number; 1 behind 2, of the same
-- sum, by its cost. Of the large ones: 3 by its cost, then by the sums.
pub earlier-samples :
    compared five (0 ∷ 3 ∷ 4 ∷ 2 ∷ 1 ∷ []) ∷ compared large (3 ∷ 2 ∷ 1 ∷ 0 ∷ []) ∷ []
    ≡ ((false ∷ true ∷ true ∷ true ∷ true ∷ [])
    ∷ (false ∷ false ∷ true ∷ true ∷ true ∷ [])
    ∷ (false ∷ false ∷ false ∷ true ∷ true ∷ [])
    ∷ (false ∷ false ∷ false ∷ false ∷ true ∷ [])
    ∷ (false ∷ false ∷ false ∷ false ∷ false ∷ [])
    ∷ [])
    ∷ ((false ∷ true ∷ true ∷ true ∷ [])
    ∷ (false ∷ false ∷ true ∷ true ∷ [])
    ∷ (false ∷ false ∷ false ∷ true ∷ [])
    ∷ (false ∷ false ∷ false ∷ false ∷ [])
    ∷ [])
    ∷ []
unfolding cost earlier
earlier-samples = refl

-- two modules without a link, and two banks with a link each: in two parts, and accepted (request 08); a link from a module to itself is not
pub parts-samples : map plan_refusal ((2 ∷ 0 ∷ []) ∷ (4 ∷ 2 ∷ 0 ∷ 1 ∷ 3 ∷ 3 ∷ 2 ∷ 3 ∷ 0 ∷ 5 ∷ []) ∷ (2 ∷ 1 ∷ 1 ∷ 1 ∷ 3 ∷ 3 ∷ []) ∷ []) ≡ 0 ∷ 0 ∷ 16 ∷ []
unfolding ascends in_order link_verdict links_refusal plan_refusal
parts-samples = refl
