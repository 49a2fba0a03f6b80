-- What a search by value stands for.
use Rattle.residual_search.specs.declared.search.Found.{Found as FoundRecord}
use Rattle.residual_search.specs.Search.{Found}

abbrev pub found_of : FoundRecord → Found
found_of r = record { distance = r.distance; next = r.next; rank = r.rank }
