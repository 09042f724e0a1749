pub mod Keys
mod RuledKeys
