-- The fields of each composite type in their order (part 2, 2.7 and 2.8.14; part 3, 3.4).
use Rattle.std.specs.Prelude.{List, [], ◌∷◌}
use Rattle.amqp_performatives.specs.declared.composite.Composite.{Composite}
use Rattle.amqp_performatives.specs.declared.composite.Composite.TheVariants.{Open, Begin, Attach, Flow, Transfer, Disposition, Detach, End, Close, Error, Received, Accepted, Rejected, Released, Modified}
use Rattle.amqp_halves.specs.declared.rows.Sort.TheVariants as Sort
use Rattle.amqp_halves.specs.declared.rows.Row.{Row}
use Rattle.amqp_halves.specs.declared.rows.Row.TheVariants.{Must, May}

abbrev pub rows_of : Composite → List Row
rows_of Open = Must Sort.Str ∷ May Sort.Str ∷ May Sort.Uint ∷ May Sort.Ushort ∷ May Sort.Uint ∷ May Sort.Any ∷ May Sort.Any ∷ May Sort.Any ∷ May Sort.Any ∷ May Sort.Any ∷ []
rows_of Begin = May Sort.Ushort ∷ Must Sort.Uint ∷ Must Sort.Uint ∷ Must Sort.Uint ∷ May Sort.Uint ∷ May Sort.Any ∷ May Sort.Any ∷ May Sort.Any ∷ []
rows_of Attach =
    Must Sort.Str ∷ Must Sort.Uint ∷ Must Sort.Role ∷ May (Sort.Ubyte 2) ∷ May (Sort.Ubyte 1) ∷ May Sort.Any ∷ May Sort.Any ∷ May Sort.Map ∷ May Sort.Boolean ∷ May Sort.Uint ∷ May Sort.Ulong ∷ May Sort.Any ∷ May Sort.Any ∷ May Sort.Any ∷ []
rows_of Flow =
    May Sort.Uint ∷ Must Sort.Uint ∷ Must Sort.Uint ∷ Must Sort.Uint ∷ May Sort.Uint ∷ May Sort.Uint ∷ May Sort.Uint ∷ May Sort.Uint ∷ May Sort.Boolean ∷ May Sort.Boolean ∷ May Sort.Any ∷ []
rows_of Transfer =
    Must Sort.Uint ∷ May Sort.Uint ∷ May Sort.Tag ∷ May Sort.Uint ∷ May Sort.Boolean ∷ May Sort.Boolean ∷ May (Sort.Ubyte 1) ∷ May Sort.State ∷ May Sort.Boolean ∷ May Sort.Boolean ∷ May Sort.Boolean ∷ []
rows_of Disposition = Must Sort.Role ∷ Must Sort.Uint ∷ May Sort.Uint ∷ May Sort.Boolean ∷ May Sort.State ∷ May Sort.Boolean ∷ []
rows_of Detach = Must Sort.Uint ∷ May Sort.Boolean ∷ May Sort.Error ∷ []
rows_of End = May Sort.Error ∷ []
rows_of Close = May Sort.Error ∷ []
rows_of Error = Must Sort.Symbol ∷ May Sort.Str ∷ May Sort.Any ∷ []
rows_of Received = Must Sort.Uint ∷ Must Sort.Ulong ∷ []
rows_of Accepted = []
rows_of Rejected = May Sort.Error ∷ []
rows_of Released = []
rows_of Modified = May Sort.Boolean ∷ May Sort.Boolean ∷ May Sort.Any ∷ []
