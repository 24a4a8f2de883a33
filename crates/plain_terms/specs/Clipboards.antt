-- What a clipboard shows.
use Rattle.std.specs.Prelude.{Option}
use Rattle.std.specs.Option.{option_map_or}
use Rattle.edit_terms.specs.Clipboard.{CopiedBlocks, clipboard_of, no_blocks}
use Rattle.plain_terms.specs.declared.clipboard.Clipboard.{Clipboard}

-- its bounds and its contents
abbrev pub clipboard_shown : Clipboard → CopiedBlocks
clipboard_shown c = clipboard_of c.clip.now c.blocks.now

-- the same of one that may be absent: an absent one has no blocks
abbrev pub some_clipboard : Option Clipboard → CopiedBlocks
some_clipboard c = option_map_or clipboard_shown c no_blocks
