-- What contracts see of the tags that a file's reader keeps.
use Rattle.std.specs.Prelude.{ℤ, Option, None, Some}
use Rattle.sponge_schematic.specs.declared.carried.Rest.{Rest}
use Rattle.sponge_schematic.specs.Carried.{CarriedTags, bare_tags}

-- the version, and what is kept beside it
abbrev pub kept_tags : ℤ → Option Rest → CarriedTags
kept_tags data_version None = bare_tags data_version
kept_tags data_version (Some rest) = record { data_version = data_version; element = rest.element; loose = rest.loose; others = rest.others }
