use Rattle.sig_lines.proofs.PieceLaws.{ended_lines, lines_ended, tail_ended, spaced_words, plain_words, plain_line, one_is, two_is, three_is, four_is}
use Rattle.sig_lines.proofs.NumberWords.{number_in-some, number_in-decimal, plain_decimal}
use Rattle.sig_lines.proofs.HexWords.{hex_in-some, hex_in-hex, plain_hex, hex_read, number_back}
use Rattle.sig_lines.proofs.laws.lines_hold.Goals as goal

pub returns : goal.returns
returns c = record {
  lines = ended_lines;
  lines_again = lines_ended;
  tail_again = tail_ended;
  words = spaced_words;
  words_again = plain_words;
  one_line = plain_line;
  one_is = one_is;
  two_are = two_is;
  three_are = three_is;
  four_are = four_is;
  number = number_in-some;
  number_again = number_in-decimal;
  number_plain = plain_decimal;
  hex_words = hex_in-some;
  hex_again = hex_in-hex;
  hex_plain = plain_hex;
  eight_again = hex_read;
  eight_are = number_back 8;
}
