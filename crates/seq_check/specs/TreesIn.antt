-- The strategy that tree lines draw.
use Rattle.std.specs.Prelude.{ℕ, List, [], ◌∷◌}
use Rattle.seq_theory.specs.Tree.{Tree, leaf, ask}
use Rattle.seq_cert.specs.declared.report.TreeLine.{TreeLine}
use Rattle.seq_cert.specs.declared.report.TreeLine.TheVariants.{Ask, Leaf}

-- a test before the first two of these trees
abbrev pub joined : ℕ → List Tree → List Tree
joined t (pass ∷ fail ∷ rest) = ask t pass fail ∷ rest
joined t trees = trees

-- the trees that the lines draw, one after another
abbrev pub trees_in : List TreeLine → List Tree
trees_in [] = []
trees_in (Leaf c ∷ lines) = leaf ∷ trees_in lines
trees_in (Ask t ∷ lines) = joined t (trees_in lines)

-- the first of them
abbrev pub first_tree : List Tree → Tree
first_tree [] = leaf
first_tree (tree ∷ rest) = tree

abbrev pub tree_in : List TreeLine → Tree
tree_in lines = first_tree (trees_in lines)
