-- What is proved of Huffman's cost.
use Rattle.std.specs.Prelude.{◌≡◌, ℕ, ◌≤◌, List, ◌∷◌, IsPermutation}
use Rattle.seq_theory.specs.Huffman.{upward, huff, BinaryTree, leaves, path_length_at}

-- no binary tree with one leaf for each weight has a smaller weighted path length
abbrev pub HuffmanIsLeast : Type 0
HuffmanIsLeast = (ws : List ℕ) (t : BinaryTree) → IsPermutation ws (leaves t) → huff ws ≤ path_length_at 0 t

-- and some tree has this one: its leaves and the weights are one list, both in upward order
abbrev pub HuffmanIsReached : Type 0
HuffmanIsReached = (w : ℕ) (ws : List ℕ) → (t : BinaryTree) × (upward (leaves t) ≡ upward (w ∷ ws)) × (path_length_at 0 t ≡ huff (w ∷ ws))
