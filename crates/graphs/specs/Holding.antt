-- What the search holds in its memory.
use Rattle.graphs.specs.declared.best.Best.{Best}
use Rattle.graphs.specs.Search.{Found}
use Rattle.graphs.specs.Stored.{pick_of}

abbrev pub found_in : {P : Type 0} → Best P → Found P
found_in b = record { price = b.price; choices = pick_of b.picks }
