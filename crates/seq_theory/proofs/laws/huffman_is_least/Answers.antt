use Rattle.seq_theory.proofs.HuffmanLaws.{huffman_is_least as law}
use Rattle.seq_theory.proofs.HuffmanTree.{huff-reached}
use Rattle.seq_theory.proofs.laws.huffman_is_least.Goals as goal

pub returns : goal.returns
returns c = record { least = law; reached = λ w ws. let r = huff-reached w ws in (r.tree, r.weights, r.length_is) }
