use Rattle.std.proofs.Common.{refl}
use lib.Count.{ones}
use Rattle.graphs.specs.Masks.{twelve}
use Rattle.graphs.specs.Model.{lowest}
use Rattle.graphs.specs.Edges.{edges}
use Rattle.graphs.specs.Frontier.{frontier_by, widest}
use Rattle.files.specs.Cut.{cut_from}
use Rattle.files.specs.Keyed.{keyed_records}
use Rattle.worked.specs.Graphs.{GraphsWork}
use Rattle.worked.specs.Worked.{PricesWork, RecordsWork, SheetWorks}
use Rattle.worked.proofs.examples_stand.Goals as goal

prices_work : PricesWork
prices_work = record {
  plain_stops = refl;
  plain_prices = (refl, refl);
  reaches_top = (refl, refl);
  second_stops = (refl, refl);
  ranked_prices = (refl, refl, refl, refl);
  first_decides = refl;
  order_kept = refl;
}

records_work : RecordsWork
unfolding cut_from keyed_records
records_work = record {
  lengths = (refl, refl, refl, refl, refl, refl);
  unknown_kind = refl;
  cut_short = refl;
  lowest_out_of_range = refl;
  no_width = refl;
  no_weight = refl;
  declared_again = refl;
  range_before_declaration = refl;
  declaration_before_width = refl;
  lowest_undeclared = refl;
  wide_dest = refl;
  unequal_copy = refl;
  full = refl;
  none_to_withdraw = refl;
}

graphs_work : GraphsWork
unfolding lowest edges frontier_by widest twelve ones
graphs_work = record {
  vector_places = (refl, refl, refl, refl);
  matrix_places = (refl, refl, refl);
  either_order = (refl, refl);
  counts = refl;
  unread = (refl, refl, refl, refl);
  from_either_side = (refl, refl);
  totals = (refl, refl);
  lowest_of_two = refl;
  lowest_of_crowd = refl;
  nothing_fits = refl;
  lowest_of_none = refl;
  search_of_two = (refl, refl, refl, refl);
  edge_masks = (refl, refl, refl);
  degrees = (refl, refl);
  frontiers = (refl, refl);
  turned_away = (refl, refl);
}

sheet_works : SheetWorks
unfolding cut_from keyed_records
sheet_works = record {
  accepted = refl;
  lines = refl;
  usage = (refl, refl, refl);
  in_memory_plain = refl;
  in_memory_ranked = (refl, refl);
}

pub returns : goal.returns
returns c = record { prices = prices_work; records = records_work; graphs = graphs_work; sheet = sheet_works }
