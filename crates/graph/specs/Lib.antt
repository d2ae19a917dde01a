-- Graphs: ways over edges, the tree by the path rule, parts and their labels. Main results: the cut property (`cut`), the tree spans and its total is least
-- (`tree-spanning`, `tree-least`), at that total a second one too (`tree-least-second`), none of its edges can be spared (`needed`), ways and tree are decided
-- (`way?`, `in_tree?`); where there is a way there is a path (`path-of`), just one where no edge can be spared (`paths-same`), and it is computed
-- (`between-path`); over the tree its latest edge is the earliest that any way can have (`best-way`).
pub mod Graph
pub mod Order
pub mod Labels
pub mod Decide
pub mod Parts
pub mod Least
pub mod Path
pub mod Between
