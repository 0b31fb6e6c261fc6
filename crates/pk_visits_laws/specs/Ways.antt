pub mod OneWay
