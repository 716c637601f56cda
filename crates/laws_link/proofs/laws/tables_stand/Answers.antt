use Rattle.laws_link.proofs.Tables.{cell_address, descriptor_address, descriptor_stands, table_stands}
use Rattle.laws_link.proofs.laws.tables_stand.Goals as goal

pub returns : goal.returns
returns c = λ p. record {
  descriptor_word = descriptor_stands p;
  descriptor_address = descriptor_address p;
  cell_word = table_stands p;
  cell_address = cell_address p;
}
