-- What the code tells of a fault, and what it takes words for.
use Rattle.sip_driver.specs.Kinds as spec
use Rattle.sip_driver.specs.declared.kinds.Told.{Told}
use Rattle.sip_driver.specs.declared.words.Asked.{Asked}
use Rattle.sip_driver.specs.declared.words.Asked.TheVariants.{Run, Compile}
use Rattle.sip_driver.specs.Asked.{run_of}
use Rattle.sip_grant.specs.Names.{named}
use Rattle.sip_words.specs.Requests.{Request, compile}

-- the place and the kind
abbrev pub told_of : Told → spec.Told
told_of told = record { place = told.place; kind = told.kind.now }

-- the request that words were taken for
abbrev pub request_of : Asked → Request
request_of (Run program input) = run_of (named program.now input.now)
request_of (Compile program table) = compile program.now table.now
